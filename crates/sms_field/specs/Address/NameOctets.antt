-- The name in an alphanumeric address (3GPP TS 23.040, 9.1.2.5): characters of the 7-bit default
-- alphabet, packed into octets.
use Rattle.std.specs.Prelude.{ℕ, zero, suc, ◌+◌, ◌*◌, ◌/◌, ◌≤◌, List, [], ◌∷◌, ◌++◌, length, take, drop, replicate}
use Rattle.sms_text.specs.Bits.{AreSeptets, from_bits, septet_bits, unpacked}
use Rattle.sms_field.specs.Field.{Field, ◌>>=◌, always, octets_of}
use Rattle.sms_field.specs.declared.name.TheConstants.{NAME_MAX}
use Rattle.sms_field.specs.declared.fault.FieldFault.{FieldFault}
use Rattle.sms_field.specs.declared.fault.FieldFault.TheVariants.{Short}

-- up to 11 septets
pub record IsName (septets : List ℕ) : Type 0 where
  pub few : length septets ≤ NAME_MAX
  pub each : AreSeptets septets

-- The length of an address counts semi-octets, four bits each: the septets that lie in them whole
-- are the name. What bits are left is ignored, and there is no octet that cannot stand.
unfoldable pub name : ℕ → Field (List ℕ) FieldFault
name count = do
  octets ← octets_of Short ((count + 1) / 2)
  always (unpacked 0 (4 * count / 7) octets)

-- the octets of a list of bits, the lowest bit first
unfoldable pub octets_from : ℕ → List ℕ → List ℕ
octets_from zero rest = []
octets_from (suc count) rest = from_bits (take 8 rest) ∷ octets_from count (drop 8 rest)

-- how a name is written: its bits, and then 0 to the end of the last octet
unfoldable pub name_octets : List ℕ → List ℕ
name_octets septets =
    octets_from ((7 * length septets + 7) / 8) (septet_bits septets ++ replicate 7 0)

-- the semi-octets that it needs
abbrev pub name_length : List ℕ → ℕ
name_length septets = (7 * length septets + 3) / 4
