-- A reader may pass this by: contracts of private functions, and proofs, alone cite it.
--
-- An address seen in its octets (3GPP TS 23.040, 9.1.2.5).
use Rattle.std.specs.Prelude.{◌≡◌, ℕ, zero, suc, ◌+◌, ◌*◌, ◌/◌, ◌%◌, ◌≤◌, Bool, true, false, List, [], ◌∷◌, ◌++◌, length, slice_index, ◌==◌, if◌then◌else◌}
use Rattle.sms_text.specs.Bits.{unpacked}
use Rattle.sms_field.specs.Address.DigitValues.{AreDigits}
use Rattle.sms_field.specs.Address.Value.{AddressValue, HasSpelling, alphanumeric}
use Rattle.sms_field.specs.declared.digits.TheConstants.{DIGITS_MAX}
use Rattle.sms_field.specs.declared.name.TheConstants.{NAME_MAX}
use Rattle.sms_field.specs.declared.symbols.Symbols.{Symbols}
use Rattle.sms_field.specs.declared.symbols.Symbols.TheVariants.{Digits, Name}

-- a digit, two an octet, the first in the low half
abbrev pub digit_in : List ℕ → ℕ → ℕ
digit_in octets n =
    if n % 2 == 0 then slice_index octets (n / 2) % 16 else slice_index octets (n / 2) / 16

-- the first digits, as many as are counted
unfoldable pub digits_in : ℕ → List ℕ → List ℕ
digits_in zero octets = []
digits_in (suc n) octets = digits_in n octets ++ digit_in octets n ∷ []

-- semi-octets, as many as are counted: a name, or digits
abbrev pub symbols_in : Bool → ℕ → List ℕ → Symbols
symbols_in true count octets = Name (unpacked 0 (4 * count / 7) octets)
symbols_in false count octets = Digits (digits_in count octets)

-- the symbols of a type of number
abbrev pub symbols_seen : ℕ → ℕ → List ℕ → Symbols
symbols_seen kind count octets = symbols_in (kind == alphanumeric) count octets

-- the address of a type of number, a plan, and semi-octets, as many as are counted
abbrev pub address_in : ℕ → ℕ → ℕ → List ℕ → AddressValue
address_in kind plan count octets =
    record { kind = kind; plan = plan; symbols = symbols_in (kind == alphanumeric) count octets }

-- up to 20 digits, in as many octets as they need
pub record AreDigitsIn (count : ℕ) (octets : List ℕ) : Type 0 where
  pub whole : length octets ≡ (count + 1) / 2
  pub digits : AreDigits (digits_in count octets)

-- up to 11 septets, in octets that have room for them
pub record IsNameIn (count : ℕ) (octets : List ℕ) : Type 0 where
  pub few : count ≤ NAME_MAX
  pub enough : 7 * count ≤ 8 * length octets

pub record IsAddressIn (kind plan count : ℕ) (octets : List ℕ) : Type 0 where
  pub few : count ≤ DIGITS_MAX
  pub whole : length octets ≡ (count + 1) / 2
  pub spelled : HasSpelling (address_in kind plan count octets)
