use Rattle.std.proofs.Common.{inl, inr, arith, rules}
use Rattle.sms_c.specs.GatewayOffers.{OffersTo}
use Rattle.sms_c.proofs.DataOffering.{on_ok}
use Rattle.sms_c.proofs.GatewayOffering.{is_turned_to, memory_alone, offers_to, opens_has_text, opens_too_many_to, text_is_there, to_text}
use Rattle.sms_c.proofs.gateway.offering.offered.Goals as goal

pub returns-clause-too_many : goal.returns-clause-too_many
returns-clause-too_many c =
    λ nine. opens_too_many_to c.args.inside.now c.args.seconds c.args.recipient.now c.args.octets.now c.in_ok-view.view c.in_ok-view.ensures.read.0 c.in_ok-recipient.recipient _ c.in_ok-origin.origin c.view.inside.stamp c.concat-place.result c.in_ok-units.units c.in_ok-view.ensures.read.1 c.in_ok-view.ensures.text c.in_ok-recipient.ensures.is_to c.as_ref-to.ensures.value (search rules) (search rules) (search rules) (c.take.ensures.too_many.0 nine)

pub returns-clause-turned : goal.returns-clause-turned
returns-clause-turned c =
    λ o. inl (c.take.ensures.too_many.1 (is_turned_to c.args.inside.now c.args.seconds c.args.recipient.now c.args.octets.now o c.in_ok-view.view c.in_ok-recipient.recipient _ c.in_ok-origin.origin c.view.inside.stamp c.concat-place.result c.in_ok-units.units (c.in_ok-view.ensures.exact o.value o.used o.read) c.in_ok-recipient.ensures.is_to c.as_ref-to.ensures.value (search rules) (search rules) (search rules)))

pub returns-clause-offers : goal.returns-clause-offers
returns-clause-offers c =
    on_ok c.take.result _
    (OffersTo c.args.inside.now c.take.new.inside c.args.seconds c.args.recipient.now c.args.octets.now)
    (λ outcome taken. offers_to c.args.inside.now c.take.new.inside c.args.seconds c.args.recipient.now c.args.octets.now outcome c.in_ok-view.view c.in_ok-view.ensures.read.0 c.in_ok-recipient.recipient _ c.in_ok-origin.origin c.view.inside.stamp c.concat-place.result c.in_ok-units.units c.in_ok-view.ensures.read.1 c.in_ok-recipient.ensures.is_to c.as_ref-to.ensures.value (search rules) (search rules) (search rules) c.in_ok-units.ensures taken)
    c.take.ensures.taken

pub returns-in_err-view-clause-not_utf8 : goal.returns-in_err-view-clause-not_utf8
returns-in_err-view-clause-not_utf8 c =
    (λ four. absurd (search (rules, arith)), λ h. absurd (text_is_there c.args.octets.now h.0 c.in_err-view.ensures.exact))

pub returns-in_err-view-clause-address : goal.returns-in_err-view-clause-address
returns-in_err-view-clause-address c =
    λ h utf8 none. absurd (text_is_there c.args.octets.now h c.in_err-view.ensures.exact)

pub returns-in_err-view-clause-turned : goal.returns-in_err-view-clause-turned
returns-in_err-view-clause-turned c =
    λ o. absurd (text_is_there c.args.octets.now (opens_has_text c.args.inside.now c.args.seconds c.args.recipient.now c.args.octets.now o) c.in_err-view.ensures.exact)

pub returns-in_err-recipient-clause-turned : goal.returns-in_err-recipient-clause-turned
returns-in_err-recipient-clause-turned c =
    λ o. let text = to_text c.args.recipient.now o.to o.is_to in
    let two = memory_alone _ c.in_err-recipient.ensures.answered (λ four. c.in_err-recipient.ensures.not_utf8.0 four text.0) (λ five. text.1 (c.in_err-recipient.ensures.bad_address five).1) in
    inr (search (rules, arith))
