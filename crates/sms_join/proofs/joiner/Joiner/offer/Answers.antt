use Rattle.std.proofs.Common.{None, subst}
use Rattle.sms_join.specs.Piece.{piece_of}
use Rattle.sms_join.specs.Joiner.{offered}
use Rattle.sms_join.specs.Joiner.Value.{JoinerValue}
use Rattle.sms_join.specs.Joiner.Same.{IsSame}
use Rattle.sms_join.specs.Joiner.Offering.{Says}
use Rattle.sms_join.specs.Inside.Keeping.{in_order}
use Rattle.sms_join.proofs.Keeping.{kept_same, says_kept, offered_kept, on_ok}
use Rattle.sms_join.proofs.ForRecipients.{offer_for, key_for_none}
use Rattle.sms_join.proofs.joiner.Joiner.offer.Goals as goal

pub returns-clause-says : goal.returns-clause-says
returns-clause-says c =
    subst (λ (v : JoinerValue). Says v.open_max v.holds (piece_of c.args.now c.args.origin.now c.args.stamp c.args.concat c.args.units) c.offer-answer.result) c.self.view_is
    (says_kept c.self.inside.keeper.open_max (in_order c.self.inside.keeper).holds c.self.inside.keeper.holds (piece_of c.args.now c.args.origin.now c.args.stamp c.args.concat c.args.units) c.offer-answer.result
    (kept_same c.self.inside.keeper c.have_kept.ensures) c.offer-answer.ensures.says)

pub returns-clause-holds : goal.returns-clause-holds
returns-clause-holds c =
    on_ok c.offer-answer.result
    (λ h. subst (λ (v : JoinerValue). IsSame (in_order c.offer-answer.new.self).holds (offered v.open_max v.remembered v.holds (piece_of c.args.now c.args.origin.now c.args.stamp c.args.concat c.args.units))) c.self.view_is
    (offered_kept c.self.inside.keeper.open_max c.self.inside.keeper.remembered (in_order c.self.inside.keeper).holds c.self.inside.keeper.holds
    (in_order c.offer-answer.new.self).holds c.offer-answer.new.self.holds (piece_of c.args.now c.args.origin.now c.args.stamp c.args.concat c.args.units)
    (kept_same c.self.inside.keeper c.have_kept.ensures) (kept_same c.offer-answer.new.self c.have_kept-2.ensures) h))
    c.offer-answer.ensures.holds

pub invariant_of-self : goal.invariant_of-self
invariant_of-self c =
    offer_for None c.self.inside.keeper.open_max c.self.inside.keeper.remembered c.self.inside.keeper c.offer-answer.new.self (piece_of c.args.now c.args.origin.now c.args.stamp c.args.concat c.args.units) c.offer-answer.result
    c.offer-answer.ensures.holds c.offer-answer.ensures.refused (key_for_none c.args.origin.now c.args.stamp c.args.concat) c.self.invariant
