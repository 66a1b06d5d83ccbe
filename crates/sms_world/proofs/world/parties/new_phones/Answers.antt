use Rattle.std.proofs.Common.{◌+◌, ap, subst, ◌∙◌, arith}
use Rattle.std.proofs.lemmas.List.{length_push}
use Rattle.sms_party.specs.Sender.Stands.{IsNewSender}
use Rattle.sms_world.specs.Inside.Phones.{IsNewPhone}
use Rattle.sms_world.proofs.AllOf.{all_and_one}
use Rattle.sms_world.proofs.world.parties.new_phones.Goals as goal

pub push_reserved-requires : goal.push_reserved-requires
push_reserved-requires c = omega (arith, c.loop-test.true, c.loop.invariant.2, c.loop.invariant.3)

pub loop-preserved : goal.loop-preserved
loop-preserved c = (
  rw c.push_reserved.ensures.items (length_push c.loop.phones.items c.in_ok-new.field-0 ∙ ap (λ n. n + 1) c.loop.invariant.0),
  rw c.push_reserved.ensures.items (all_and_one (IsNewPhone c.args.limits) c.loop.phones.items c.in_ok-new.field-0 c.loop.invariant.1
      (record { sends = subst (λ w. IsNewSender w c.args.limits.reject c.in_ok-new.field-0.sender) c.width_by-width.ensures c.in_ok-new.ensures.sends; receives = c.in_ok-new.ensures.receives })),
  omega (arith, c.push_reserved.ensures.len, c.loop.invariant.2),
  c.push_reserved.ensures.capacity ∙ c.loop.invariant.3,
)
