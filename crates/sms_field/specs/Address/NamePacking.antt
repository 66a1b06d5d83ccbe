-- The octets of a name are its septets packed, and all other bits are 0 (3GPP TS 23.040, 9.1.2.5;
-- TS 23.038, 6.1.2.1).
use Rattle.std.specs.Prelude.{◌≡◌, ℕ, List}
use Rattle.sms_text.specs.Bits.{PackedPlain}
use Rattle.sms_text.specs.Octets.{IsOctets}
use Rattle.sms_field.specs.Address.NameOctets.{name_octets}

abbrev pub NamesArePacked : Type 0
NamesArePacked = (septets : List ℕ) → PackedPlain 0 septets (name_octets septets)

-- no other octets are
abbrev pub OnlyNamesArePacked : Type 0
OnlyNamesArePacked =
    (septets octets : List ℕ) → IsOctets octets → PackedPlain 0 septets octets
    → octets ≡ name_octets septets
