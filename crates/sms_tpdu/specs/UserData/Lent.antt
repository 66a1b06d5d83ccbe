-- User data made of units that are lent: the header of a segment's place, where one is given, and
-- the units after it (3GPP TS 23.040, 9.2.3.24.1 and 9.2.3.24.8).
use Rattle.std.specs.Prelude.{◌≡◌, ℕ, ◌+◌, ◌*◌, ◌≤◌, ◌<◌, List, length, Option, Some, None}
use Rattle.sms_text.specs.Bits.{AreSeptets}
use Rattle.sms_text.specs.Utf16.{octets_high_first}
use Rattle.sms_field.specs.declared.coding.Alphabet.TheVariants.{Gsm7}
use Rattle.sms_tpdu.specs.UserData.Lengths.{length_of_header}
use Rattle.sms_tpdu.specs.UserData.Elements.{element_octets}
use Rattle.sms_tpdu.specs.UserData.Concatenation.{concat_element}
use Rattle.sms_tpdu.specs.declared.user_data.concat.Concat.{Concat}
use Rattle.sms_tpdu.specs.declared.user_data.concat.Width.TheVariants.{Eight}
use Rattle.sms_tpdu.specs.declared.user_data.body.Body.{Body}
use Rattle.sms_tpdu.specs.declared.user_data.body.Body.TheVariants as body
use Rattle.sms_tpdu.specs.declared.user_data.lengths.TheConstants.{OCTETS_MAX, SEPTETS_MAX}
use Rattle.sms_tpdu.specs.declared.user_data.lent.UnitsView.{UnitsView}
use Rattle.sms_tpdu.specs.declared.user_data.lent.UnitsView.TheVariants.{Gsm, Ucs2}
use Rattle.sms_tpdu.specs.declared.user_data.UserData.{UserData}

-- the header that tells a place
abbrev pub place_header : Option Concat → Option (List ℕ)
place_header None = None
place_header (Some place) = Some (element_octets (concat_element place))

-- the reference has room in its octets
abbrev pub IsReferenceInRange : Concat → Type 0
IsReferenceInRange place = place.width ≡ Eight → place.reference < 256

-- the septets, or the octets of the 16-bit units
abbrev pub units_body : UnitsView → Body
units_body (Gsm septets) = body.Septets septets.now
units_body (Ucs2 units) = body.Octets (octets_high_first units.now)

-- a body after the header of a place
abbrev pub user_after : Option Concat → Body → UserData
user_after place units = record { header = place_header place; body = units }

-- there is room for the units after the octets of a header
abbrev pub SeptetsHaveRoom : ℕ → List ℕ → Type 0
SeptetsHaveRoom taken septets =
    (length_of_header Gsm7 taken + length septets ≤ SEPTETS_MAX) × AreSeptets septets

abbrev pub Ucs2HaveRoom : ℕ → List ℕ → Type 0
Ucs2HaveRoom taken units = taken + 2 * length units ≤ OCTETS_MAX

abbrev pub HasRoom : ℕ → UnitsView → Type 0
HasRoom taken (Gsm septets) = SeptetsHaveRoom taken septets.now
HasRoom taken (Ucs2 units) = Ucs2HaveRoom taken units.now
