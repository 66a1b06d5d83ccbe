-- What is told of a piece that is offered.
use Rattle.std.specs.Prelude.{◌≡◌, Bool, true, false, Result, Ok, Err, OnOk}
use Rattle.sms_join.specs.declared.offer.Offer.{Offer}
use Rattle.sms_join.specs.declared.offer.OfferFault.{OfferFault}
use Rattle.sms_join.specs.declared.offer.OfferFault.TheVariants.{TooManyOpen}
use Rattle.sms_join.specs.Piece.{Piece}
use Rattle.sms_join.specs.Joiner.Offering.{is_first, SaysAnswer}
use Rattle.sms_join.specs.Joiner.Same.{IsSame}
use Rattle.sms_join.specs.Gateway.Answers.{gateway_answer, gateway_offered}
use Rattle.sms_join.specs.Gateway.Value.{GatewayValue}
use Rattle.sms_page.specs.Page.{PageValue, Puts}
use Rattle.sms_told.specs.declared.answer.Telling.{Telling}
use Rattle.sms_told.specs.Answers.{SourceValue, answer_text}

-- the piece was turned away, since too many sets are open
abbrev pub is_away : Result Offer OfferFault → Bool
is_away (Err TooManyOpen) = true
is_away _ = false

-- the joiner answers the piece, and just that answer is told
pub record TellsPiece (before after : GatewayValue) (telling : Telling) (source : SourceValue)
    (piece : Piece) (old new : PageValue) (away : Bool) : Type 0 where
  pub answer : Result Offer OfferFault
  pub says : SaysAnswer (gateway_answer before.limits before.holds piece)
      (is_first before.holds piece) answer
  pub holds : OnOk answer
      (IsSame after.holds (gateway_offered before.limits before.holds piece))
  pub told : Puts old new (answer_text telling source answer)
  pub turned : away ≡ is_away answer
