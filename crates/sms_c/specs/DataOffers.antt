-- What a joiner of C makes of user data alone, with no unit around them.
use Rattle.std.specs.Prelude.{◌≡◌, ℕ, ◌||◌, Bool, true, false, List, [], ◌∷◌, Option, Some, is_some, option_map, Ok, Err, if◌then◌else◌}
use Rattle.sms_text.specs.Utf16.{utf16_units}
use Rattle.std.specs.Str.{chars, IsUtf8}
use Rattle.std.specs.String.{string_bytes}
use Rattle.sms_field.specs.Address.Text.{address_of_text}
use Rattle.sms_field.specs.Address.Value.{AddressValue}
use Rattle.sms_field.specs.declared.coding.Alphabet.{Alphabet}
use Rattle.sms_language.specs.TextUnder.{text_under}
use Rattle.sms_language.specs.declared.tables.Locking.{Locking}
use Rattle.sms_language.specs.declared.tables.Locking.TheVariants as locking
use Rattle.sms_language.specs.declared.tables.Single.{Single}
use Rattle.sms_language.specs.declared.tables.Single.TheVariants as single
use Rattle.sms_language.specs.declared.tables.Tables.{Tables}
use Rattle.sms_tpdu.specs.UserData.{FitsAlphabet}
use Rattle.sms_tpdu.specs.UserData.ConcatenationFound.{concat_of_header}
use Rattle.sms_tpdu.specs.UserData.Languages.{IsToldIn}
use Rattle.sms_tpdu.specs.declared.user_data.UserData.{UserData}
use Rattle.sms_tpdu.specs.declared.user_data.concat.Concat.{Concat}
use Rattle.sms_join.specs.BodyUnits.{units_of_body}
use Rattle.sms_join.specs.Joiner.{offered}
use Rattle.sms_join.specs.Joiner.Finishing.{would_finish}
use Rattle.sms_join.specs.Joiner.Offering.{Says}
use Rattle.sms_join.specs.Joiner.Same.{IsSame}
use Rattle.sms_join.specs.Joiner.Value.{SameLimits}
use Rattle.sms_join.specs.Piece.{Piece, piece_of}
use Rattle.sms_join.specs.Reading.{text_of_segments}
use Rattle.sms_join.specs.declared.offer.Offer.{Offer}
use Rattle.sms_join.specs.declared.offer.OfferFault.TheVariants.{TooManyOpen}
use Rattle.sms_join.specs.declared.units.Units.{Units}
use Rattle.sms_join.specs.declared.units.Units.TheVariants.{Gsm, Ucs2}
use Rattle.sms_c.specs.DataAlone.{alphabet_in, are_single, fits_form, is_text, ReadsData}
use Rattle.sms_c.specs.Offers.{outcome_of, text_after}
use Rattle.sms_c.specs.Parts.{bit}
use Rattle.sms_c.specs.Writing.{is_set}
use Rattle.sms_c.specs.declared.joiner.data_offering.DataOffer.{DataOffer}
use Rattle.sms_c.specs.declared.joiner.data_view.DataView.{DataView}
use Rattle.sms_c.specs.declared.joiner.data_view.DataView.TheVariants.{Packed, Singles}
use Rattle.sms_c.specs.declared.joiner.inside.Inside.{Inside}
use Rattle.sms_c.specs.declared.reading.data.DataForm.{DataForm}

-- ---- as they are seen

abbrev pub seen_data : DataView → UserData
seen_data (Packed user) = user
seen_data (Singles user) = user

-- packed under the alphabet, or septets one an octet
abbrev pub StandsBy : DataForm → DataView → Type 0
StandsBy form (Packed user) = FitsAlphabet (alphabet_in form) user
StandsBy form (Singles user) = are_single form ≡ true

-- ---- what is offered

-- they stand so, are read, and are a text
pub record IsTextIn (form : DataForm) (octets : List ℕ) (value : UserData) : Type 0 where
  pub fits : fits_form form ≡ true
  pub used : ℕ
  pub read : ReadsData form octets value used
  pub text : is_text (alphabet_in form) ≡ true

abbrev pub HasTextIn : DataForm → List ℕ → Type 0
HasTextIn form octets = (value : UserData) × IsTextIn form octets value

-- and they are from the address that this text says
pub record IsFrom (origin : List ℕ) (address : AddressValue) : Type 0 where
  pub utf8 : IsUtf8 origin
  pub said : address_of_text (chars origin) ≡ Ok address

-- ---- their units

abbrev pub are_default : Locking → Single → Bool
are_default locking.Default single.Default = true
are_default _ _ = false

-- Septets under other tables than those of the default alphabet are the 16-bit units of the text
-- that they are there: so they are read by these tables, whatever stands beside them.
abbrev pub units_under : Tables → Units → Units
units_under tables (Gsm septets) =
    if are_default tables.locking tables.single
    then Gsm septets
    else Ucs2 (utf16_units (text_under tables septets))
units_under tables (Ucs2 units) = Ucs2 units

-- septets by the default alphabet, or by the tables that the header tells; or UCS-2
abbrev pub AreUnitsBy : Bool → Alphabet → UserData → Units → Type 0
AreUnitsBy false alphabet value units = units_of_body alphabet value.body ≡ Some units
AreUnitsBy true alphabet value units =
    (tables : Tables) × IsToldIn value.header tables
    × (option_map (units_under tables) (units_of_body alphabet value.body) ≡ Some units)

abbrev pub AreUnitsIn : DataForm → UserData → Units → Type 0
AreUnitsIn form = AreUnitsBy (is_set form.languages) (alphabet_in form)

-- ---- what becomes of them

-- A segment is known by its place, and a message in one piece by its stamp. Without both it is
-- known by nothing, and no repeat of another.
abbrev pub is_known : DataOffer → Option Concat → Bool
is_known offer place = is_set offer.has_stamp || is_some place

-- the joiner answers so to the piece, and holds what it holds after that
pub record IsTaken (before after : Inside) (piece : Piece) (outcome : ℕ) : Type 0 where
  pub answer : Offer
  pub says : Says before.joiner.open_max before.joiner.holds piece (Ok answer)
  pub outcome_is : outcome ≡ outcome_of answer
  pub holds : IsSame after.joiner.holds
      (offered before.joiner.open_max before.joiner.remembered before.joiner.holds piece)
  pub limits : SameLimits after.joiner before.joiner
  pub text : string_bytes after.text ≡ text_after answer (string_bytes before.text)

-- the text is told at once, and the joiner holds what it held
pub record IsPassed (before after : Inside) (units : Units) (outcome : ℕ) : Type 0 where
  pub outcome_is : outcome ≡ 2
  pub same : after.joiner ≡ before.joiner
  pub text : chars (string_bytes after.text) ≡ text_of_segments (units ∷ [])

abbrev pub IsTakenOrPassed : Bool → Inside → Inside → Piece → ℕ → Type 0
IsTakenOrPassed true before after piece outcome = IsTaken before after piece outcome
IsTakenOrPassed false before after piece outcome = IsPassed before after piece.units outcome

pub record OffersData (before after : Inside) (seconds : ℕ) (offer : DataOffer)
    (origin octets : List ℕ) (outcome : ℕ) : Type 0 where
  pub value : UserData
  pub is_text : IsTextIn offer.form octets value
  pub address : AddressValue
  pub from : IsFrom origin address
  pub place : Option Concat
  pub place_is : place ≡ concat_of_header value.header
  pub units : Units
  pub units_are : AreUnitsIn offer.form value units
  pub taken : IsTakenOrPassed (is_known offer place) before after
      (piece_of seconds address offer.stamp.octets place units) outcome

-- a segment or a message in one piece that would open one set more than may be open, whatever its
-- units are
pub record OpensTooManyData (before : Inside) (seconds : ℕ) (offer : DataOffer)
    (origin octets : List ℕ) : Type 0 where
  pub value : UserData
  pub is_text : IsTextIn offer.form octets value
  pub address : AddressValue
  pub from : IsFrom origin address
  pub place : Option Concat
  pub place_is : place ≡ concat_of_header value.header
  pub known : is_known offer place ≡ true
  pub says : (units : Units) → Says before.joiner.open_max before.joiner.holds
      (piece_of seconds address offer.stamp.octets place units) (Err TooManyOpen)

-- ---- whether they would finish their message

-- whenever they come and whatever their units are; what is known by nothing always would
abbrev pub WouldFinishOrPass : Bool → Inside → ℕ → (ℕ → Units → Piece) → Type 0
WouldFinishOrPass true inside answer piece =
    (seconds : ℕ) (units : Units)
    → answer ≡ bit (would_finish inside.joiner.holds (piece seconds units))
WouldFinishOrPass false inside answer piece = answer ≡ 1

pub record WouldFinishData (inside : Inside) (offer : DataOffer) (origin octets : List ℕ)
    (answer : ℕ) : Type 0 where
  pub value : UserData
  pub is_text : IsTextIn offer.form octets value
  pub address : AddressValue
  pub from : IsFrom origin address
  pub place : Option Concat
  pub place_is : place ≡ concat_of_header value.header
  pub is : WouldFinishOrPass (is_known offer place) inside answer
      (λ seconds units. piece_of seconds address offer.stamp.octets place units)
