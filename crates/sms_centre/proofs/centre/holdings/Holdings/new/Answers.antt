use Rattle.std.proofs.Common.{List, [], sym, ap, ◌∙◌, subst}
use Rattle.sms_centre.specs.Centre.Value.{LineValue, HeldValue, addresses}
use Rattle.sms_centre.specs.Inside.Holdings.{AreHeld}
use Rattle.sms_centre.proofs.Holdings.{none_held}
use Rattle.sms_centre.proofs.NewCentre.{new_addresses}
use Rattle.sms_centre.proofs.centre.holdings.Holdings.new.Goals as goal

pub invariant_of-result : goal.invariant_of-result
invariant_of-result c = (
  subst (λ (h : HeldValue). AreHeld h.endings c.in_ok-lines.lines.items) (sym c.new-held.ensures)
      (subst (λ (l : List LineValue). AreHeld [] l) (sym c.in_ok-lines.ensures) (none_held c.args.phones.now)),
  c.in_ok-phones.ensures ∙ sym (ap addresses c.in_ok-lines.ensures ∙ new_addresses c.args.phones.now),
)
