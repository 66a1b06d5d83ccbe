-- Addresses (3GPP TS 23.040, 9.1.2.5).
pub mod DigitOctets
pub mod DigitText
pub mod DigitValues
pub mod Faults
pub mod NameOctets
pub mod NamePacking
pub mod Padded
pub mod Same
pub mod Seen
pub mod Text
pub mod Value
use Rattle.std.specs.Prelude.{ℕ, ◌+◌, ◌*◌, ◌/◌, ◌%◌, Bool, true, false, List, ◌∷◌, length, ◌==◌}
use Rattle.sms_field.specs.Field.{Field, ◌>>=◌, always, octet, octet_by}
use Rattle.sms_field.specs.Address.DigitOctets.{digits, digit_octets}
use Rattle.sms_field.specs.Address.NameOctets.{name, name_octets, name_length}
use Rattle.sms_field.specs.Address.Value.{AddressValue, alphanumeric}
use Rattle.sms_field.specs.declared.symbols.Symbols.{Symbols}
use Rattle.sms_field.specs.declared.symbols.Symbols.TheVariants.{Digits, Name}
use Rattle.sms_field.specs.declared.digits.TheConstants.{DIGITS_MAX}
use Rattle.sms_field.specs.declared.fault.FieldFault.{FieldFault}
use Rattle.sms_field.specs.declared.fault.FieldFault.TheVariants.{Short}
use Rattle.sms_field.specs.Address.Faults.{too_long}
pub use Rattle.sms_field.specs.Field.Single.{up_to}

-- Address-Value: as many semi-octets as are counted, a name or digits
unfoldable pub symbols_by : Bool → ℕ → Field Symbols FieldFault
symbols_by true count = do
  septets ← name count
  always (Name septets)
symbols_by false count = do
  values ← digits count
  always (Digits values)

-- the symbols of a type of number
abbrev pub symbols_of : ℕ → ℕ → Field Symbols FieldFault
symbols_of kind count = symbols_by (kind == alphanumeric) count

unfoldable pub address : Field AddressValue FieldFault
address = do
  -- Address-Length, the number of semi-octets of Address-Value; above 20: too_long
  count ← octet_by Short (up_to DIGITS_MAX too_long)
  -- Type-of-Address: bits 6 to 4 Type-of-number, bits 3 to 0 Numbering-plan-identification
  address_type ← octet Short
  -- Address-Value
  symbols ← symbols_by (address_type / 16 % 8 == alphanumeric) count
  always (record { kind = address_type / 16 % 8; plan = address_type % 16; symbols = symbols })

abbrev pub symbols_length : Symbols → ℕ
symbols_length (Digits values) = length values
symbols_length (Name septets) = name_length septets

abbrev pub symbols_octets : Symbols → List ℕ
symbols_octets (Digits values) = digit_octets values
symbols_octets (Name septets) = name_octets septets

-- how an address is written: Address-Length, Type-of-Address with bit 7 set, Address-Value
unfoldable pub address_octets : AddressValue → List ℕ
address_octets n =
    symbols_length n.symbols ∷ (128 + 16 * n.kind + n.plan) ∷ symbols_octets n.symbols
