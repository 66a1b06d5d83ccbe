use Rattle.std.proofs.Common.{sym, arith, ◌∙◌}
use Rattle.sms_tpdu.proofs.ElementWalk.{whole_end, whole_next}
use Rattle.sms_tpdu.proofs.user_data.elements.ElementsIterator.next.Goals as goal

pub returns-in_default-clause-steps : goal.returns-in_default-clause-steps
returns-in_default-clause-steps c =
    let none = sym c.self.view_is ∙ whole_end c.self.inside.rest.now (omega (arith, c.in_default.len_below)) c.self.invariant in
    (none, none)

pub split_at-requires : goal.split_at-requires
split_at-requires c = rw c.from.ensures (whole_next c.self.inside.rest.now c.self.invariant c.in-len2-up.len_at_least).0

pub invariant_of-self : goal.invariant_of-self
invariant_of-self c = rw (c.split_at.ensures.back, c.from.ensures) (whole_next c.self.inside.rest.now c.self.invariant c.in-len2-up.len_at_least).1
