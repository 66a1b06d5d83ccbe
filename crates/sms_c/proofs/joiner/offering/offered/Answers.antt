use Rattle.std.proofs.Common.{inl, rules}
use Rattle.sms_join.specs.Piece.{piece_of}
use Rattle.sms_c.specs.DataOffers.{IsTaken}
use Rattle.sms_c.specs.Offers.{Offers}
use Rattle.sms_c.proofs.DataOffering.{on_ok}
use Rattle.sms_c.proofs.Offering.{is_text, is_turned, offers_unit}
use Rattle.sms_c.proofs.joiner.offering.offered.Goals as goal

pub returns-in_err-view-clause-turned : goal.returns-in_err-view-clause-turned
returns-in_err-view-clause-turned c = λ o. absurd (is_text c.args.inside.now c.args.seconds c.args.octets.now o (c.in_err-view.ensures.exact o.value o.used o.read))

pub returns-clause-turned : goal.returns-clause-turned
returns-clause-turned c =
    λ o. inl (c.take.ensures.too_many.1 (is_turned c.args.inside.now c.args.seconds c.args.octets.now o c.in_ok-view.view c.in_ok-origin.origin c.view.inside.stamp c.concat-place.result c.in_ok-units.units (c.in_ok-view.ensures.exact o.value o.used o.read) (search rules) (search rules) (search rules) (search rules)))

pub returns-clause-offers : goal.returns-clause-offers
returns-clause-offers c =
    on_ok c.take.result
    (IsTaken c.args.inside.now c.take.new.inside (piece_of c.args.seconds c.in_ok-origin.origin c.view.inside.stamp c.concat-place.result c.in_ok-units.units))
    (Offers c.args.inside.now c.take.new.inside c.args.seconds c.args.octets.now)
    (λ outcome taken. offers_unit c.args.inside.now c.take.new.inside c.args.seconds c.args.octets.now outcome c.in_ok-view.ensures.read.0 c.in_ok-view.view c.in_ok-origin.origin c.view.inside.stamp c.concat-place.result c.in_ok-units.units c.in_ok-view.ensures.read.1 (search rules) (search rules) (search rules) (search rules) taken)
    c.take.ensures.taken
