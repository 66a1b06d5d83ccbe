use Rattle.std.proofs.Common.{ℕ, eqb, Option, sym, ap, ◌∙◌}
use Rattle.sms_join.specs.OpenSets.{SetValue}
use Rattle.sms_join.specs.Inside.Lines.{has_number}
use Rattle.sms_join.proofs.Slots.{sets_none, sets_some}
use Rattle.sms_join.proofs.line.lies.Goals as goal

pub returns-in-None : goal.returns-in-None
returns-in-None c =
    sym (ap (λ (r : Option SetValue). has_number r c.args.opening.turn) (sets_none c.args.slots.now.entries c.args.opening.index (sym c.in-None.ensures.entry)))

pub returns-in-Some : goal.returns-in-Some
returns-in-Some c =
    ap (λ (n : ℕ). eqb n c.args.opening.turn) c.turn.ensures
    ∙ sym (ap (λ (r : Option SetValue). has_number r c.args.opening.turn)
    (sets_some c.args.slots.now.entries c.args.opening.index (c.in-Some.field-0-0.now, c.in-Some.slot.now) (sym c.in-Some.ensures.entry)))
