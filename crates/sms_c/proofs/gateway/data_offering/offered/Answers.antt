use Rattle.std.proofs.Common.{true, inl, inr, sym, ◌∙◌, arith, rules}
use Rattle.sms_c.specs.DataOffers.{seen_data}
use Rattle.sms_c.specs.GatewayOffers.{OffersDataTo}
use Rattle.sms_c.proofs.DataOffering.{on_ok}
use Rattle.sms_c.proofs.GatewayOffering.{ends_are, is_turned_data_to, memory_alone, not_passed_to, offers_data_to, opens_too_many_data_to}
use Rattle.sms_c.proofs.gateway.data_offering.offered.Goals as goal

pub returns-then-not-is_known-clause-turned : goal.returns-then-not-is_known-clause-turned
returns-then-not-is_known-clause-turned c =
    λ o. absurd (not_passed_to c.args.inside.now c.args.seconds c.args.offer c.args.recipient.now c.args.origin.now c.args.octets.now o (seen_data c.in_ok-view.view) c.place-place.result (c.in_ok-view.ensures.exact o.value o.is_text) c.place-place.ensures.place (sym c.is_known.ensures ∙ c.if-not-is_known.true))

pub returns-clause-too_many : goal.returns-clause-too_many
returns-clause-too_many c =
    λ nine. opens_too_many_data_to c.args.inside.now c.args.seconds c.args.offer c.args.recipient.now c.args.origin.now c.args.octets.now (seen_data c.in_ok-view.view) c.in_ok-ends.ends.recipient _ c.in_ok-ends.ends.origin c.new-stamp.result c.place-place.result c.in_ok-units.units c.in_ok-view.ensures.read c.in_ok-ends.ensures.is_to c.as_ref-to.ensures.value c.in_ok-ends.ensures.from c.new-stamp.ensures.is c.place-place.ensures.place (sym c.is_known.ensures ∙ c.if-not-is_known.false) (c.take.ensures.too_many.0 nine)

pub returns-clause-turned : goal.returns-clause-turned
returns-clause-turned c =
    λ o. inl (c.take.ensures.too_many.1 (is_turned_data_to c.args.inside.now c.args.seconds c.args.offer c.args.recipient.now c.args.origin.now c.args.octets.now o (seen_data c.in_ok-view.view) c.in_ok-ends.ends.recipient _ c.in_ok-ends.ends.origin c.new-stamp.result c.place-place.result c.in_ok-units.units (c.in_ok-view.ensures.exact o.value o.is_text) c.in_ok-ends.ensures.is_to c.as_ref-to.ensures.value c.in_ok-ends.ensures.from c.new-stamp.ensures.is c.place-place.ensures.place))

pub returns-clause-offers : goal.returns-clause-offers
returns-clause-offers c =
    on_ok c.take.result _
    (OffersDataTo c.args.inside.now c.take.new.inside c.args.seconds c.args.offer c.args.recipient.now c.args.origin.now c.args.octets.now)
    (λ outcome taken. offers_data_to c.args.inside.now c.take.new.inside c.args.seconds c.args.offer c.args.recipient.now c.args.origin.now c.args.octets.now outcome (seen_data c.in_ok-view.view) c.in_ok-ends.ends.recipient _ c.in_ok-ends.ends.origin c.new-stamp.result c.place-place.result c.in_ok-units.units true c.in_ok-view.ensures.read c.in_ok-ends.ensures.is_to c.as_ref-to.ensures.value c.in_ok-ends.ensures.from c.new-stamp.ensures.is c.place-place.ensures.place c.in_ok-units.ensures (sym (sym c.is_known.ensures ∙ c.if-not-is_known.false)) taken)
    c.take.ensures.taken

pub returns-in_err-ends-clause-turned : goal.returns-in_err-ends-clause-turned
returns-in_err-ends-clause-turned c =
    λ o. let are = ends_are c.args.recipient.now c.args.origin.now o.to o.address o.is_to o.from in
    let two = memory_alone _ c.in_err-ends.ensures.answered (λ four. c.in_err-ends.ensures.not_utf8.0 four are.0) (λ five. are.1 (c.in_err-ends.ensures.bad_address five)) in
    inr (search (rules, arith))

pub returns-in_err-pass-clause-memory : goal.returns-in_err-pass-clause-memory
returns-in_err-pass-clause-memory c =
    λ two. ((seen_data c.in_ok-view.view, c.in_ok-view.ensures.read), (ends_are c.args.recipient.now c.args.origin.now c.in_ok-ends.ends.recipient c.in_ok-ends.ends.origin c.in_ok-ends.ensures.is_to c.in_ok-ends.ensures.from).0)
