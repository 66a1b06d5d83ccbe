-- Why no unit is written of a text.
use Rattle.std.specs.Prelude.{◌≡◌, ◌<◌, ◌≤◌, ◌⊎◌, ℕ, true, List, length, Ok}
use Rattle.std.specs.Str.{chars, IsUtf8}
use Rattle.sms_field.specs.Address.Text.{address_of_text}
use Rattle.sms_field.specs.Address.Value.{AddressValue}
use Rattle.sms_tpdu.specs.declared.user_data.concat.Width.{Width}
use Rattle.sms_join.specs.Cut.{IsCut}
use Rattle.sms_join.specs.Segments.{AreSegments}
use Rattle.sms_join.specs.declared.segment.Segment.{Segment}
use Rattle.sms_join.specs.declared.units.Units.{Units}
use Rattle.sms_c.specs.Class.{are_allowed}
use Rattle.sms_c.specs.Parts.{bits_of}
use Rattle.sms_c.specs.declared.writing.DeliverFields.{DeliverFields}
use Rattle.sms_c.specs.declared.writing.Reference.{Reference}
use Rattle.sms_c.specs.declared.writing.SubmitFields.{SubmitFields}

-- a reference of 8 bits that they can hold, or one of 16
abbrev pub FitsReference : Reference → Type 0
FitsReference reference =
    ((reference.width ≡ 8) × (reference.reference < 256)) ⊎ (reference.width ≡ 16)

-- with no class or one of the four, all spare octets 0, such a reference and a format of TP-VP
abbrev pub FitsSubmit : SubmitFields → Type 0
FitsSubmit fields =
    (are_allowed fields.message_class fields.spare ≡ true)
    × FitsReference fields.segments × (fields.validity.format < 4)

abbrev pub FitsDeliver : DeliverFields → Type 0
FitsDeliver fields =
    (are_allowed fields.message_class fields.spare ≡ true) × FitsReference fields.segments

abbrev pub AreTexts : List ℕ → List ℕ → Type 0
AreTexts address text = IsUtf8 address × IsUtf8 text

-- a text that is no address
abbrev pub SaysNoAddress : List ℕ → Type 0
SaysNoAddress text =
    (address : AddressValue) → address_of_text (chars text) ≡ Ok address → ⊥

-- it is cut into more segments than a message may have (3GPP TS 23.040, 9.2.3.24.1)
pub record TakesTooMany (reference : Reference) (text : List ℕ) : Type 0 where
  pub width : Width
  pub width_is : reference.width ≡ bits_of width
  pub pieces : List Units
  pub cut : IsCut width (chars text) pieces
  pub many : 255 < length pieces

-- it is cut into so many segments, at most 255
pub record IsCutInto (reference : Reference) (text : List ℕ) (count : ℕ) : Type 0 where
  pub width : Width
  pub width_is : reference.width ≡ bits_of width
  pub segments : List Segment
  pub cut : AreSegments width (chars text) segments
  pub counted : count ≡ length segments
  pub few : count ≤ 255

-- this status, or, since the address is looked at before, that it is none; or want of memory
abbrev pub IsAfterAddress : ℕ → ℕ → Type 0
IsAfterAddress number status = (status ≡ number) ⊎ ((status ≡ 5) ⊎ (status ≡ 2))

-- and the index is not below that
abbrev pub EndsBefore : Reference → List ℕ → ℕ → ℕ → Type 0
EndsBefore reference text index count = IsCutInto reference text count × (count ≤ index)
