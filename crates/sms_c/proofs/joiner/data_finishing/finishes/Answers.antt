use Rattle.std.proofs.Common.{ℕ, List, true, sym, ap, ◌∙◌}
use Rattle.sms_join.specs.Joiner.Finishing.{would_finish}
use Rattle.sms_join.specs.Piece.{piece_of}
use Rattle.sms_c.specs.DataOffers.{seen_data}
use Rattle.sms_c.specs.Parts.{bit}
use Rattle.sms_c.proofs.DataOffering.{finishes_data, from_is}
use Rattle.sms_c.proofs.joiner.data_finishing.finishes.Goals as goal

pub returns-clause-finishes : goal.returns-clause-finishes
returns-clause-finishes c =
    finishes_data c.args.inside.now c.args.offer c.args.origin.now c.args.octets.now c.bit.result (seen_data c.in_ok-view.view) c.in_ok-origin-2.origin c.place-place.result true c.in_ok-view.ensures.read (from_is c.args.origin.now c.in_ok-origin.origin.now c.in_ok-origin-2.origin c.in_ok-origin.ensures.text c.in_ok-origin.ensures.utf8 c.in_ok-origin-2.ensures.address) c.place-place.ensures.place (sym (sym c.is_known.ensures ∙ c.if-not-is_known.false))
    (λ seconds units. c.bit.ensures ∙ ap bit (c.would_finish.ensures seconds units ∙ ap (λ (s : List ℕ). would_finish c.args.inside.now.joiner.holds (piece_of seconds c.in_ok-origin-2.origin s c.place-place.result units)) c.new-stamp.ensures.is))
