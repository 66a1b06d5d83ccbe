use Rattle.std.proofs.Common.{true, inl, sym, ◌∙◌}
use Rattle.sms_c.specs.DataOffers.{IsTaken, OffersData}
use Rattle.sms_join.specs.Piece.{piece_of}
use Rattle.sms_c.specs.DataOffers.{seen_data}
use Rattle.sms_c.proofs.DataOffering.{from_is, is_turned, not_passed, offers_data, on_ok, opens_too_many}
use Rattle.sms_c.proofs.joiner.data_offering.offered.Goals as goal

pub returns-then-not-is_known-clause-turned : goal.returns-then-not-is_known-clause-turned
returns-then-not-is_known-clause-turned c =
    λ o. absurd (not_passed c.args.inside.now c.args.seconds c.args.offer c.args.origin.now c.args.octets.now o (seen_data c.in_ok-view.view) c.place-place.result (c.in_ok-view.ensures.exact o.value o.is_text) c.place-place.ensures.place (sym c.is_known.ensures ∙ c.if-not-is_known.true))

pub returns-clause-too_many : goal.returns-clause-too_many
returns-clause-too_many c =
    λ nine. opens_too_many c.args.inside.now c.args.seconds c.args.offer c.args.origin.now c.args.octets.now (seen_data c.in_ok-view.view) c.in_ok-origin-2.origin c.new-stamp.result c.place-place.result c.in_ok-units.units c.in_ok-view.ensures.read (from_is c.args.origin.now c.in_ok-origin.origin.now c.in_ok-origin-2.origin c.in_ok-origin.ensures.text c.in_ok-origin.ensures.utf8 c.in_ok-origin-2.ensures.address) c.new-stamp.ensures.is c.place-place.ensures.place (sym c.is_known.ensures ∙ c.if-not-is_known.false) (c.take.ensures.too_many.0 nine)

pub returns-clause-turned : goal.returns-clause-turned
returns-clause-turned c =
    λ o. inl (c.take.ensures.too_many.1 (is_turned c.args.inside.now c.args.seconds c.args.offer c.args.origin.now c.args.octets.now o (seen_data c.in_ok-view.view) c.in_ok-origin-2.origin c.new-stamp.result c.place-place.result c.in_ok-units.units (c.in_ok-view.ensures.exact o.value o.is_text) (from_is c.args.origin.now c.in_ok-origin.origin.now c.in_ok-origin-2.origin c.in_ok-origin.ensures.text c.in_ok-origin.ensures.utf8 c.in_ok-origin-2.ensures.address) c.new-stamp.ensures.is c.place-place.ensures.place))

pub returns-clause-offers : goal.returns-clause-offers
returns-clause-offers c =
    on_ok c.take.result
    (IsTaken c.args.inside.now c.take.new.inside (piece_of c.args.seconds c.in_ok-origin-2.origin c.new-stamp.result c.place-place.result c.in_ok-units.units))
    (OffersData c.args.inside.now c.take.new.inside c.args.seconds c.args.offer c.args.origin.now c.args.octets.now)
    (λ outcome taken. offers_data c.args.inside.now c.take.new.inside c.args.seconds c.args.offer c.args.origin.now c.args.octets.now outcome (seen_data c.in_ok-view.view) c.in_ok-origin-2.origin c.new-stamp.result c.place-place.result c.in_ok-units.units true c.in_ok-view.ensures.read (from_is c.args.origin.now c.in_ok-origin.origin.now c.in_ok-origin-2.origin c.in_ok-origin.ensures.text c.in_ok-origin.ensures.utf8 c.in_ok-origin-2.ensures.address) c.new-stamp.ensures.is c.place-place.ensures.place c.in_ok-units.ensures (sym (sym c.is_known.ensures ∙ c.if-not-is_known.false)) taken)
    c.take.ensures.taken
