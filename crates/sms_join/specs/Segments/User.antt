-- The user data of a segment (3GPP TS 23.040, 9.2.3.24.1 and 9.2.3.24.8).
use Rattle.std.specs.Prelude.{◌≡◌, ℕ, ◌<◌, ◌≤◌, ◌==◌, List, length, Option, Some, None, if◌then◌else◌}
use Rattle.sms_text.specs.Bits.{AreSeptets}
use Rattle.sms_text.specs.Octets.{IsOctets}
use Rattle.sms_text.specs.Utf16.{octets_high_first}
use Rattle.sms_field.specs.declared.coding.Alphabet.{Alphabet as Coding}
use Rattle.sms_field.specs.declared.coding.Alphabet.TheVariants as coding
use Rattle.sms_tpdu.specs.declared.user_data.concat.Width.{Width}
use Rattle.sms_tpdu.specs.declared.user_data.body.Body.{Body}
use Rattle.sms_tpdu.specs.declared.user_data.body.Body.TheVariants as body
use Rattle.sms_tpdu.specs.declared.user_data.UserData.{UserData}
use Rattle.sms_tpdu.specs.UserData.Elements.{element_octets}
use Rattle.sms_tpdu.specs.UserData.Concatenation.{element_for, IsConcatOf}
use Rattle.sms_join.specs.declared.units.Units.{Units}
use Rattle.sms_join.specs.declared.units.Units.TheVariants.{Gsm, Ucs2}
use Rattle.sms_join.specs.declared.segment.Segment.{Segment}
use Rattle.sms_join.specs.UnitsOfText.{numbers, alphabet_in}
use Rattle.sms_join.specs.Cut.{room_alone, room_beside}

-- There is room for the units, and the sequence is 1 to the maximum.
pub record IsSendable (width : Width) (segment : Segment) : Type 0 where
  pub alone : segment.maximum ≡ 1
      → length (numbers segment.units) ≤ room_alone (alphabet_in segment.units)
  pub beside : 1 < segment.maximum
      → length (numbers segment.units) ≤ room_beside width (alphabet_in segment.units)
  pub first : 1 ≤ segment.sequence
  pub last : segment.sequence ≤ segment.maximum

-- the coding scheme's alphabet for the units
abbrev pub coding_of : Units → Coding
coding_of (Gsm septets) = coding.Gsm7
coding_of (Ucs2 units) = coding.Ucs2

-- the coding scheme of the units: the default alphabet, or UCS-2 (3GPP TS 23.038, 4)
abbrev pub dcs_of : Units → ℕ
dcs_of (Gsm septets) = 0
dcs_of (Ucs2 units) = 8

abbrev pub body_of : Units → Body
body_of (Gsm septets) = body.Septets septets
body_of (Ucs2 units) = body.Octets (octets_high_first units)

-- the place of a segment, where there are others
abbrev pub header_of : Width → ℕ → ℕ → ℕ → Option (List ℕ)
header_of width reference maximum sequence =
    if maximum == 1
    then None
    else Some (element_octets (element_for width reference maximum sequence))

abbrev pub user_of : Width → ℕ → Segment → UserData
user_of width reference segment =
    record {
      header = header_of width reference segment.maximum segment.sequence;
      body = body_of segment.units;
    }

-- the header tells the place of the segment, where there are others
abbrev pub TellsPlace : Width → ℕ → ℕ → ℕ → Option (List ℕ) → Type 0
TellsPlace width reference maximum sequence None = maximum ≡ 1
TellsPlace width reference maximum sequence (Some header) =
    IsConcatOf header
    (Some (record {
      width = width;
      reference = reference;
      maximum = maximum;
      sequence = sequence;
    }))

-- septets, or octets
abbrev pub HasRange : Body → Type 0
HasRange (body.Septets septets) = AreSeptets septets
HasRange (body.Octets octets) = IsOctets octets
