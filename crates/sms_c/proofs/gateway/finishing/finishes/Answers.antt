use Rattle.std.proofs.Common.{ap, ◌∙◌, arith, rules}
use Rattle.sms_c.specs.Parts.{bit}
use Rattle.sms_c.proofs.GatewayOffering.{finishes_to, text_is_there}
use Rattle.sms_c.proofs.gateway.finishing.finishes.Goals as goal

pub returns-clause-finishes : goal.returns-clause-finishes
returns-clause-finishes c =
    finishes_to c.args.inside.now c.args.recipient.now c.args.octets.now c.bit.result c.in_ok-view.view c.in_ok-view.ensures.read.0 c.in_ok-recipient.recipient _ c.in_ok-origin.origin c.view.inside.stamp c.concat-place.result c.in_ok-view.ensures.read.1 c.in_ok-view.ensures.text c.in_ok-recipient.ensures.is_to c.as_ref-to.ensures.value (search rules) (search rules) (search rules)
    (λ seconds units. c.bit.ensures ∙ ap bit (c.would_finish.ensures seconds units))

pub returns-in_err-view-clause-not_utf8 : goal.returns-in_err-view-clause-not_utf8
returns-in_err-view-clause-not_utf8 c =
    (λ four. absurd (search (rules, arith)), λ h. absurd (text_is_there c.args.octets.now h.0 c.in_err-view.ensures.exact))

pub returns-in_err-view-clause-address : goal.returns-in_err-view-clause-address
returns-in_err-view-clause-address c =
    λ h utf8 none. absurd (text_is_there c.args.octets.now h c.in_err-view.ensures.exact)
