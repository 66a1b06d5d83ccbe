-- What a joiner for many recipients of C makes of what it is offered, and of time.
use Rattle.std.specs.Prelude.{◌≡◌, ℕ, ◌⊎◌, Bool, true, false, List, [], ◌∷◌, Option, None, Some, Result, Ok, Err}
use Rattle.std.specs.Str.{chars}
use Rattle.std.specs.String.{string_bytes}
use Rattle.sms_field.specs.Reading.{Reads}
use Rattle.sms_field.specs.Address.Value.{AddressValue}
use Rattle.sms_field.specs.Coding.{alphabet_at}
use Rattle.sms_tpdu.specs.Deliver.{Delivery, deliver}
use Rattle.sms_tpdu.specs.UserData.ConcatenationFound.{concat_of_header}
use Rattle.sms_tpdu.specs.declared.user_data.UserData.{UserData}
use Rattle.sms_tpdu.specs.declared.user_data.concat.Concat.{Concat}
use Rattle.sms_join.specs.BodyUnits.{units_of_body}
use Rattle.sms_join.specs.Gateway.Answers.{gateway_aged, gateway_answer, gateway_finishings, gateway_offered, gateway_would_finish, is_passed}
use Rattle.sms_join.specs.Gateway.Finishings.{finishings_at}
use Rattle.sms_join.specs.Gateway.Value.{GatewayValue}
use Rattle.sms_join.specs.Joiner.Offering.{SaysAnswer, is_first}
use Rattle.sms_join.specs.Joiner.Same.{IsSame}
use Rattle.sms_join.specs.OpenSets.Told.{young_after}
use Rattle.sms_join.specs.Piece.{Piece, piece_to}
use Rattle.sms_join.specs.Reading.{text_of_segments}
use Rattle.sms_join.specs.declared.offer.Offer.{Offer}
use Rattle.sms_join.specs.declared.offer.OfferFault.{OfferFault}
use Rattle.sms_join.specs.declared.offer.OfferFault.TheVariants.{TooManyOpen}
use Rattle.sms_join.specs.declared.units.Units.{Units}
use Rattle.sms_c.specs.DataOffers.{AreUnitsIn, IsFrom, IsTextIn, is_known}
use Rattle.sms_c.specs.Offers.{has_text, outcome_of, text_after}
use Rattle.sms_c.specs.Parts.{bit}
use Rattle.sms_c.specs.WritingFaults.{AreTexts, SaysNoAddress}
use Rattle.sms_c.specs.declared.gateway.inside.Inside.{Inside}
use Rattle.sms_c.specs.declared.joiner.data_offering.DataOffer.{DataOffer}

-- ---- for whom it is, and whom it is from

-- for the address that a text says, or for none where the text is empty
abbrev pub IsTo : List ℕ → Option AddressValue → Type 0
IsTo [] to = to ≡ None
IsTo (octet ∷ octets) to =
    (address : AddressValue) × IsFrom (octet ∷ octets) address × (to ≡ Some address)

-- both are texts, and one of them is no address
abbrev pub SayNoAddress : List ℕ → List ℕ → Type 0
SayNoAddress recipient origin =
    AreTexts recipient origin × (SaysNoAddress recipient ⊎ SaysNoAddress origin)

-- ---- what becomes of a piece

-- a call says the answer to the piece
abbrev pub SaysTo : GatewayValue → Piece → Result Offer OfferFault → Type 0
SaysTo before piece result =
    SaysAnswer (gateway_answer before.limits before.holds piece) (is_first before.holds piece)
    result

-- the joiner answers so to the piece, and holds what it holds after that
pub record IsTakenTo (before after : Inside) (piece : Piece) (outcome : ℕ) : Type 0 where
  pub answer : Offer
  pub says : SaysTo before.gateway piece (Ok answer)
  pub outcome_is : outcome ≡ outcome_of answer
  pub holds : IsSame after.gateway.holds
      (gateway_offered before.gateway.limits before.gateway.holds piece)
  pub finishings : after.gateway.finishings
      ≡ gateway_finishings before.gateway.limits before.gateway.holds
      before.gateway.finishings piece
  pub passed : is_passed before.gateway.limits.alone piece.key ≡ true
      → after.gateway ≡ before.gateway
  pub limits : after.gateway.limits ≡ before.gateway.limits
  pub text : string_bytes after.text ≡ text_after answer (string_bytes before.text)

-- the text is told at once, and the joiner holds what it held
pub record IsPassedTo (before after : Inside) (units : Units) (outcome : ℕ) : Type 0 where
  pub outcome_is : outcome ≡ 2
  pub same : after.gateway ≡ before.gateway
  pub text : chars (string_bytes after.text) ≡ text_of_segments (units ∷ [])

-- what is known by nothing is passed whatever the limits say
abbrev pub IsTakenOrPassedTo : Bool → Inside → Inside → Piece → ℕ → Type 0
IsTakenOrPassedTo true before after piece outcome = IsTakenTo before after piece outcome
IsTakenOrPassedTo false before after piece outcome = IsPassedTo before after piece.units outcome

-- ---- an SMS-DELIVER for a recipient

-- it is read, and its piece is offered
pub record OffersTo (before after : Inside) (seconds : ℕ) (recipient octets : List ℕ)
    (outcome : ℕ) : Type 0 where
  pub value : Delivery
  pub used : ℕ
  pub read : Reads deliver value octets used
  pub to : Option AddressValue
  pub is_to : IsTo recipient to
  pub place : Option Concat
  pub place_is : place ≡ concat_of_header value.user.header
  pub units : Units
  pub units_are : units_of_body (alphabet_at value.dcs) value.user.body ≡ Some units
  pub taken : IsTakenTo before after
      (piece_to seconds to value.origin value.stamp place units) outcome

-- it is read and has a text, and its piece would open one set more than may be open, whatever its
-- units are
pub record OpensTooManyTo (before : Inside) (seconds : ℕ) (recipient octets : List ℕ)
    : Type 0 where
  pub value : Delivery
  pub used : ℕ
  pub read : Reads deliver value octets used
  pub text : has_text value ≡ true
  pub to : Option AddressValue
  pub is_to : IsTo recipient to
  pub place : Option Concat
  pub place_is : place ≡ concat_of_header value.user.header
  pub says : (units : Units) → SaysTo before.gateway
      (piece_to seconds to value.origin value.stamp place units) (Err TooManyOpen)

-- it is read and has a text, and its piece would finish its message, or would not, whenever it came
-- and whatever its units are
pub record WouldFinishTo (inside : Inside) (recipient octets : List ℕ) (answer : ℕ) : Type 0 where
  pub value : Delivery
  pub used : ℕ
  pub read : Reads deliver value octets used
  pub text : has_text value ≡ true
  pub to : Option AddressValue
  pub is_to : IsTo recipient to
  pub place : Option Concat
  pub place_is : place ≡ concat_of_header value.user.header
  pub is : (seconds : ℕ) (units : Units)
      → answer ≡ bit (gateway_would_finish inside.gateway.limits inside.gateway.holds
      (piece_to seconds to value.origin value.stamp place units))

-- ---- user data alone for a recipient

pub record OffersDataTo (before after : Inside) (seconds : ℕ) (offer : DataOffer)
    (recipient origin octets : List ℕ) (outcome : ℕ) : Type 0 where
  pub value : UserData
  pub is_text : IsTextIn offer.form octets value
  pub to : Option AddressValue
  pub is_to : IsTo recipient to
  pub address : AddressValue
  pub from : IsFrom origin address
  pub place : Option Concat
  pub place_is : place ≡ concat_of_header value.header
  pub units : Units
  pub units_are : AreUnitsIn offer.form value units
  pub taken : IsTakenOrPassedTo (is_known offer place) before after
      (piece_to seconds to address offer.stamp.octets place units) outcome

-- a segment or a message in one piece that would open one set more than may be open, whatever its
-- units are
pub record OpensTooManyDataTo (before : Inside) (seconds : ℕ) (offer : DataOffer)
    (recipient origin octets : List ℕ) : Type 0 where
  pub value : UserData
  pub is_text : IsTextIn offer.form octets value
  pub to : Option AddressValue
  pub is_to : IsTo recipient to
  pub address : AddressValue
  pub from : IsFrom origin address
  pub place : Option Concat
  pub place_is : place ≡ concat_of_header value.header
  pub known : is_known offer place ≡ true
  pub says : (units : Units) → SaysTo before.gateway
      (piece_to seconds to address offer.stamp.octets place units) (Err TooManyOpen)

-- whenever they come and whatever their units are; what is known by nothing always would
abbrev pub WouldFinishOrPassTo : Bool → Inside → ℕ → (ℕ → Units → Piece) → Type 0
WouldFinishOrPassTo true inside answer piece =
    (seconds : ℕ) (units : Units)
    → answer ≡ bit (gateway_would_finish inside.gateway.limits inside.gateway.holds
    (piece seconds units))
WouldFinishOrPassTo false inside answer piece = answer ≡ 1

pub record WouldFinishDataTo (inside : Inside) (offer : DataOffer)
    (recipient origin octets : List ℕ) (answer : ℕ) : Type 0 where
  pub value : UserData
  pub is_text : IsTextIn offer.form octets value
  pub to : Option AddressValue
  pub is_to : IsTo recipient to
  pub address : AddressValue
  pub from : IsFrom origin address
  pub place : Option Concat
  pub place_is : place ≡ concat_of_header value.header
  pub is : WouldFinishOrPassTo (is_known offer place) inside answer
      (λ seconds units. piece_to seconds to address offer.stamp.octets place units)

-- ---- time

-- What is old by the limits is dropped and forgotten, and the rest stays.
pub record IsAged (seconds : ℕ) (before after : GatewayValue) : Type 0 where
  pub holds : IsSame after.holds (gateway_aged before seconds)
  pub told : after.told ≡ young_after before.limits.open_for seconds before.told
  pub finishings : after.finishings
      ≡ finishings_at before.limits.remember_for seconds before.finishings
  pub limits : after.limits ≡ before.limits
