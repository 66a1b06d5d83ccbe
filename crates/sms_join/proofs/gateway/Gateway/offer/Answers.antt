-- A message is passed, or offered to the joiner.
use Rattle.std.proofs.Common.{◌≡◌, ℕ, [], ◌∷◌, ◌∙◌, sym, ap, subst}
use Rattle.circular_buffer.specs.Buffer.{Buffer}
use Rattle.std.specs.Prelude.{option_copied, true}
use Rattle.std.specs.Result.{IfOk, OnOk}
use Rattle.sms_join.specs.Piece.{piece_to}
use Rattle.sms_join.specs.Joiner.Offering.{is_first, SaysAnswer}
use Rattle.sms_join.specs.Joiner.Same.{IsSame}
use Rattle.sms_join.specs.OpenSets.Offered.{TellsOffer}
use Rattle.sms_join.specs.Gateway.Answers.{gateway_answer, gateway_finishings, gateway_offered}
use Rattle.sms_join.specs.Gateway.Value.{GatewayValue}
use Rattle.sms_join.specs.Inside.Gateways.{AreTimed, gateway_of, noted_by}
use Rattle.sms_join.specs.Inside.Keeping.{in_order}
use Rattle.sms_join.specs.Inside.Turns.{arranged}
use Rattle.sms_join.proofs.Arranged.{arranged_open}
use Rattle.sms_join.proofs.DistinctKeys.{offer_distinct}
use Rattle.sms_join.proofs.Gateways.{passed_tells, passed_says, taken_says, taken_holds, taken_noted, timed_offer}
use Rattle.sms_join.proofs.Keeping.{kept_same, says_kept, offered_kept, on_ok}
use Rattle.sms_join.proofs.gateway.Gateway.offer.Goals as goal

pub returns-then-passes-clause-says : goal.returns-then-passes-clause-says
returns-then-passes-clause-says c =
    subst (λ (v : GatewayValue). SaysAnswer (gateway_answer v.limits v.holds (piece_to c.args.now (option_copied c.args.recipient) c.args.origin.now c.args.stamp c.args.concat c.args.units)) (is_first v.holds (piece_to c.args.now (option_copied c.args.recipient) c.args.origin.now c.args.stamp c.args.concat c.args.units)) c.pass.result) c.self.view_is
    (passed_says (gateway_of c.self.inside.alone c.self.inside.open_for c.self.inside.remember_for (in_order c.self.inside.keeper) c.self.inside.finishings.items).limits (in_order c.self.inside.keeper).holds (piece_to c.args.now (option_copied c.args.recipient) c.args.origin.now c.args.stamp c.args.concat c.args.units) c.pass.result (sym (c.passes.ensures (option_copied c.args.recipient) c.args.origin.now c.args.stamp) ∙ c.if-passes.true) c.pass.ensures)

pub returns-then-passes-clause-told : goal.returns-then-passes-clause-told
returns-then-passes-clause-told c =
    subst (λ (v : GatewayValue). IfOk c.pass.result (TellsOffer v.told v.told (piece_to c.args.now (option_copied c.args.recipient) c.args.origin.now c.args.stamp c.args.concat c.args.units))) c.self.view_is
    (passed_tells c.self.inside.alone (arranged c.self.inside.keeper.told) (piece_to c.args.now (option_copied c.args.recipient) c.args.origin.now c.args.stamp c.args.concat c.args.units) (c.args.units ∷ []) c.pass.result
    (arranged_open c.self.inside.keeper.told c.have_kept.ensures.are_open) (sym (c.passes.ensures (option_copied c.args.recipient) c.args.origin.now c.args.stamp) ∙ c.if-passes.true) (c.pass.ensures true))

pub returns-clause-says : goal.returns-clause-says
returns-clause-says c =
    subst (λ (v : GatewayValue). SaysAnswer (gateway_answer v.limits v.holds (piece_to c.args.now (option_copied c.args.recipient) c.args.origin.now c.args.stamp c.args.concat c.args.units)) (is_first v.holds (piece_to c.args.now (option_copied c.args.recipient) c.args.origin.now c.args.stamp c.args.concat c.args.units)) c.offer-answer.result) c.self.view_is
    (taken_says (gateway_of c.self.inside.alone c.self.inside.open_for c.self.inside.remember_for (in_order c.self.inside.keeper) c.self.inside.finishings.items).limits (in_order c.self.inside.keeper).holds (piece_to c.args.now (option_copied c.args.recipient) c.args.origin.now c.args.stamp c.args.concat c.args.units) c.offer-answer.result (sym (c.passes.ensures (option_copied c.args.recipient) c.args.origin.now c.args.stamp) ∙ c.if-passes.false)
    (says_kept c.self.inside.keeper.open_max (in_order c.self.inside.keeper).holds c.self.inside.keeper.holds (piece_to c.args.now (option_copied c.args.recipient) c.args.origin.now c.args.stamp c.args.concat c.args.units) c.offer-answer.result (kept_same c.self.inside.keeper c.have_kept.ensures) c.offer-answer.ensures.says))

pub returns-clause-holds : goal.returns-clause-holds
returns-clause-holds c =
    on_ok c.offer-answer.result
    (λ h. subst (λ (v : GatewayValue). IsSame (in_order c.offer-answer.new.self).holds (gateway_offered v.limits v.holds (piece_to c.args.now (option_copied c.args.recipient) c.args.origin.now c.args.stamp c.args.concat c.args.units))) c.self.view_is
    (taken_holds (gateway_of c.self.inside.alone c.self.inside.open_for c.self.inside.remember_for (in_order c.self.inside.keeper) c.self.inside.finishings.items).limits (in_order c.self.inside.keeper).holds (piece_to c.args.now (option_copied c.args.recipient) c.args.origin.now c.args.stamp c.args.concat c.args.units) (in_order c.offer-answer.new.self).holds (sym (c.passes.ensures (option_copied c.args.recipient) c.args.origin.now c.args.stamp) ∙ c.if-passes.false)
    (offered_kept c.self.inside.keeper.open_max c.self.inside.keeper.remembered (in_order c.self.inside.keeper).holds c.self.inside.keeper.holds
    (in_order c.offer-answer.new.self).holds c.offer-answer.new.self.holds (piece_to c.args.now (option_copied c.args.recipient) c.args.origin.now c.args.stamp c.args.concat c.args.units)
    (kept_same c.self.inside.keeper c.have_kept.ensures) (kept_same c.offer-answer.new.self c.have_kept-2.ensures) h)))
    c.offer-answer.ensures.holds

pub invariant_of-self : goal.invariant_of-self
invariant_of-self c =
    let timed = timed_offer c.self.inside.keeper c.offer-answer.new.self (piece_to c.args.now (option_copied c.args.recipient) c.args.origin.now c.args.stamp c.args.concat c.args.units) c.self.inside.finishings.items c.self.inside.finishings.capacity c.offer-answer.result c.self.invariant.0
    c.offer-answer.ensures.says c.offer-answer.ensures.holds c.offer-answer.ensures.limits c.offer-answer.ensures.refused in (
      subst (λ (b : Buffer ℕ). AreTimed c.offer-answer.new.self b.items b.capacity) (sym c.note_answer.ensures) timed,
      offer_distinct c.self.inside.keeper c.offer-answer.new.self (piece_to c.args.now (option_copied c.args.recipient) c.args.origin.now c.args.stamp c.args.concat c.args.units) c.offer-answer.result
          c.offer-answer.ensures.holds c.offer-answer.ensures.refused c.self.invariant.1,
    )

pub returns-clause-finishings : goal.returns-clause-finishings
returns-clause-finishings c =
    subst (λ (v : GatewayValue). OnOk c.offer-answer.result (c.note_answer.new.finishings.items ≡ gateway_finishings v.limits v.holds v.finishings (piece_to c.args.now (option_copied c.args.recipient) c.args.origin.now c.args.stamp c.args.concat c.args.units))) c.self.view_is
    (on_ok c.offer-answer.result (λ h. ap (λ (b : Buffer ℕ). b.items) c.note_answer.ensures ∙ (ap (λ n. noted_by n c.self.inside.finishings.items c.args.now c.offer-answer.result) c.self.invariant.0.room ∙ h))
    (taken_noted (gateway_of c.self.inside.alone c.self.inside.open_for c.self.inside.remember_for (in_order c.self.inside.keeper) c.self.inside.finishings.items).limits (in_order c.self.inside.keeper).holds (piece_to c.args.now (option_copied c.args.recipient) c.args.origin.now c.args.stamp c.args.concat c.args.units) c.self.inside.finishings.items c.offer-answer.result
    (sym (c.passes.ensures (option_copied c.args.recipient) c.args.origin.now c.args.stamp) ∙ c.if-passes.false)
    (says_kept c.self.inside.keeper.open_max (in_order c.self.inside.keeper).holds c.self.inside.keeper.holds (piece_to c.args.now (option_copied c.args.recipient) c.args.origin.now c.args.stamp c.args.concat c.args.units) c.offer-answer.result (kept_same c.self.inside.keeper c.have_kept.ensures) c.offer-answer.ensures.says)))
