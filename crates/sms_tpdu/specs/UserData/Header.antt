-- User data headers by themselves: a length octet and as many octets as it says (3GPP TS 23.040,
-- 9.2.3.24).
use Rattle.std.specs.Prelude.{◌≡◌, ℕ, List, ◌∷◌, length, ◌≤◌}
use Rattle.sms_field.specs.Field.{Field, ◌>>=◌, octet_by, octets_of}
use Rattle.sms_field.specs.Address.{up_to}
use Rattle.sms_tpdu.specs.declared.fault.UnitFault.{UnitFault}
use Rattle.sms_tpdu.specs.declared.fault.UnitFault.TheVariants.{Short, HeaderTooLong}
use Rattle.sms_tpdu.specs.declared.user_data.header.TheConstants.{HEADER_MAX}
use Rattle.sms_text.specs.Octets.{IsOctets}

abbrev pub IsHeader : List ℕ → Type 0
IsHeader octets = (length octets ≤ HEADER_MAX) × IsOctets octets

unfoldable pub header : Field (List ℕ) UnitFault
header = do
  -- UDHL; above 139: HeaderTooLong
  size ← octet_by Short (up_to HEADER_MAX HeaderTooLong)
  -- the information elements
  octets_of Short size

-- how a header is written
abbrev pub SpellsHeader : List ℕ → List ℕ → Type 0
SpellsHeader value octets = IsHeader value × (octets ≡ length value ∷ value)
