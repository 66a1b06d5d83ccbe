use Rattle.std.proofs.Common.{ap, sym, ◌∙◌}
use Rattle.sms_c.specs.DataOffers.{seen_data}
use Rattle.sms_c.specs.Parts.{bit}
use Rattle.sms_c.proofs.GatewayOffering.{finishes_data_to}
use Rattle.sms_c.proofs.gateway.data_finishing.finishes.Goals as goal

pub returns-clause-finishes : goal.returns-clause-finishes
returns-clause-finishes c =
    finishes_data_to c.args.inside.now c.args.offer c.args.recipient.now c.args.origin.now c.args.octets.now c.bit.result (seen_data c.in_ok-view.view) c.in_ok-ends.ends.recipient _ c.in_ok-ends.ends.origin c.new-stamp.result c.place-place.result c.in_ok-view.ensures.read c.in_ok-ends.ensures.is_to c.as_ref-to.ensures.value c.in_ok-ends.ensures.from c.new-stamp.ensures.is c.place-place.ensures.place (sym (sym c.is_known.ensures ∙ c.if-not-is_known.false))
    (λ seconds units. c.bit.ensures ∙ ap bit (c.would_finish.ensures seconds units))
