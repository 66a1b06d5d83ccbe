-- What a joiner of C makes of an SMS-DELIVER.
use Rattle.std.specs.Prelude.{◌≡◌, ℕ, Bool, true, false, List, Option, Some, is_some, Result, Ok, Err}
use Rattle.std.specs.String.{string_bytes}
use Rattle.sms_field.specs.Reading.{Reads}
use Rattle.sms_field.specs.Reading.WholeAnswer.{IsFaultOf}
use Rattle.sms_field.specs.declared.refusal.Fault.{Fault}
use Rattle.sms_field.specs.Address.Value.{AddressValue}
use Rattle.sms_field.specs.Coding.{alphabet_at}
use Rattle.sms_tpdu.specs.Deliver.{Delivery, deliver}
use Rattle.sms_tpdu.specs.UserData.ConcatenationFound.{concat_of_header}
use Rattle.sms_tpdu.specs.declared.fault.UnitFault.{UnitFault}
use Rattle.sms_tpdu.specs.declared.fault.UnitFault.TheVariants.{Short}
use Rattle.sms_tpdu.specs.declared.user_data.concat.Concat.{Concat}
use Rattle.sms_join.specs.declared.units.Units.{Units}
use Rattle.sms_join.specs.declared.offer.Offer.{Offer}
use Rattle.sms_join.specs.declared.offer.Offer.TheVariants.{Repeat, Kept, Finished}
use Rattle.sms_join.specs.declared.offer.OfferFault.TheVariants.{TooManyOpen}
use Rattle.sms_join.specs.BodyUnits.{units_of_body}
use Rattle.sms_join.specs.Piece.{piece_of}
use Rattle.sms_join.specs.Joiner.{offered}
use Rattle.sms_join.specs.Joiner.Value.{SameLimits}
use Rattle.sms_join.specs.Joiner.Finishing.{would_finish}
use Rattle.sms_join.specs.Joiner.Same.{IsSame}
use Rattle.sms_join.specs.Joiner.Offering.{Says}
use Rattle.sms_c.specs.Parts.{bit}
use Rattle.sms_c.specs.Status.{unit_refused}
use Rattle.sms_c.specs.declared.joiner.inside.Inside.{Inside}
use Rattle.sms_c.specs.declared.status.Refused.{Refused}

abbrev pub outcome_of : Offer → ℕ
outcome_of Repeat = 0
outcome_of Kept = 1
outcome_of (Finished _) = 2

-- the text that finished last
abbrev pub text_after : Offer → List ℕ → List ℕ
text_after Repeat before = before
text_after Kept before = before
text_after (Finished text) before = string_bytes text

-- it is read, and its piece is offered: the joiner answers so, and holds what it holds after that
pub record Offers (before after : Inside) (seconds : ℕ) (octets : List ℕ)
    (outcome : ℕ) : Type 0 where
  pub value : Delivery
  pub used : ℕ
  pub read : Reads deliver value octets used
  pub origin : AddressValue
  pub origin_is : origin ≡ value.origin
  pub stamp : List ℕ
  pub stamp_is : stamp ≡ value.stamp
  pub place : Option Concat
  pub place_is : place ≡ concat_of_header value.user.header
  pub units : Units
  pub units_are : units_of_body (alphabet_at value.dcs) value.user.body ≡ Some units
  pub answer : Offer
  pub says : Says before.joiner.open_max before.joiner.holds
      (piece_of seconds origin stamp place units) (Ok answer)
  pub outcome_is : outcome ≡ outcome_of answer
  pub holds : IsSame after.joiner.holds
      (offered before.joiner.open_max before.joiner.remembered before.joiner.holds
      (piece_of seconds origin stamp place units))
  pub limits : SameLimits after.joiner before.joiner
  pub text : string_bytes after.text ≡ text_after answer (string_bytes before.text)

abbrev pub OnOkIs : {T E : Type 0} → Result T E → (T → Type 0) → Type 0
OnOkIs (Ok value) P = P value
OnOkIs (Err _) P = Unit {0}

-- under status 1 it is told where the octets are refused, and why
abbrev pub RefusesUnit : ℕ → List ℕ → Refused → Type 0
RefusesUnit status octets refused =
    status ≡ 1 → (fault : Fault UnitFault)
    × IsFaultOf deliver Short octets fault × (refused ≡ unit_refused fault)

-- no SMS-DELIVER is read
pub record IsUnread (octets : List ℕ) : Type 0 where
  pub none : (value : Delivery) (used : ℕ) → Reads deliver value octets used → ⊥

-- the user data are a text: septets of the default alphabet, or UCS-2 (3GPP TS 23.038, 4)
abbrev pub has_text : Delivery → Bool
has_text value = is_some (units_of_body (alphabet_at value.dcs) value.user.body)

-- an SMS-DELIVER is read, and its user data are no text
pub record HasNoText (octets : List ℕ) : Type 0 where
  pub value : Delivery
  pub used : ℕ
  pub read : Reads deliver value octets used
  pub none : has_text value ≡ false

-- an SMS-DELIVER is read, and its user data are a text
pub record HasText (octets : List ℕ) : Type 0 where
  pub value : Delivery
  pub used : ℕ
  pub read : Reads deliver value octets used
  pub text : has_text value ≡ true

-- it is read and has a text, and its piece would open one set more than may be open
pub record OpensTooMany (before : Inside) (seconds : ℕ) (octets : List ℕ) : Type 0 where
  pub value : Delivery
  pub used : ℕ
  pub read : Reads deliver value octets used
  pub origin : AddressValue
  pub origin_is : origin ≡ value.origin
  pub stamp : List ℕ
  pub stamp_is : stamp ≡ value.stamp
  pub place : Option Concat
  pub place_is : place ≡ concat_of_header value.user.header
  pub units : Units
  pub units_are : units_of_body (alphabet_at value.dcs) value.user.body ≡ Some units
  pub says : Says before.joiner.open_max before.joiner.holds
      (piece_of seconds origin stamp place units) (Err TooManyOpen)

-- under status 8 it is read, and has no text
abbrev pub LacksText : ℕ → List ℕ → Type 0
LacksText status octets = status ≡ 8 → HasNoText octets

-- it is read and has a text, and its piece would finish its message, or would not, whenever it came
-- and whatever its units are
pub record WouldFinish (inside : Inside) (octets : List ℕ) (answer : ℕ) : Type 0 where
  pub value : Delivery
  pub used : ℕ
  pub read : Reads deliver value octets used
  pub text : has_text value ≡ true
  pub origin : AddressValue
  pub origin_is : origin ≡ value.origin
  pub stamp : List ℕ
  pub stamp_is : stamp ≡ value.stamp
  pub place : Option Concat
  pub place_is : place ≡ concat_of_header value.user.header
  pub is : (seconds : ℕ) (units : Units)
      → answer ≡ bit (would_finish inside.joiner.holds (piece_of seconds origin stamp place units))
