-- Addresses of the relay layer in octets (3GPP TS 24.011, 8.2.5.1 and 8.2.5.2).
pub mod Text
pub mod Value
use Rattle.std.specs.Prelude.{ℕ, zero, suc, ◌+◌, ◌-◌, ◌*◌, ◌/◌, ◌%◌, Bool, true, false, List, [], ◌∷◌, length, Option, Some, None, Result, Ok, Err, ◌==◌, nat_lt, if◌then◌else◌}
use Rattle.sms_field.specs.Field.{Field, ◌>>=◌, always, octet, octet_by, up_to}
use Rattle.sms_field.specs.Address.DigitOctets.{both_digits, digit_octets}
use Rattle.sms_field.specs.RelayAddress.Value.{RelayAddressValue}
use Rattle.sms_field.specs.declared.relay_address_view.TheConstants.{RP_LENGTH_MAX}
use Rattle.sms_field.specs.declared.fault.FieldFault.{FieldFault}
use Rattle.sms_field.specs.declared.fault.FieldFault.TheVariants.{Short}
use Rattle.sms_field.specs.Address.Faults.{too_long, bad_digit}

-- the digits in the last octet: a high half of 15 marks an odd number
abbrev pub last_digits : ℕ → Result (List ℕ) FieldFault
last_digits octet =
    if nat_lt (octet % 16) 15
    then Ok (if nat_lt (octet / 16) 15 then octet % 16 ∷ octet / 16 ∷ [] else octet % 16 ∷ [])
    else Err bad_digit

-- the digits in octets, as many as are counted
unfoldable pub relay_digits : ℕ → Field (List ℕ) FieldFault
relay_digits zero = always []
-- bad_digit: the low half is 15
relay_digits (suc zero) = octet_by Short last_digits
relay_digits (suc (suc n)) = do
  -- bad_digit: one of the halves is 15
  two ← octet_by Short both_digits
  others ← relay_digits (suc n)
  always (two.0 ∷ two.1 ∷ others)

-- no address; or its type, its plan and its digits
unfoldable pub relay_part : Bool → ℕ → Field (Option RelayAddressValue) FieldFault
relay_part true count = always None
relay_part false count = do
  -- bits 6 to 4 Type of number, bits 3 to 0 Numbering plan identification
  address_type ← octet Short
  -- Number digits
  values ← relay_digits count
  always (Some (record {
    kind = address_type / 16 % 8;
    plan = address_type % 16;
    digits = values;
  }))

unfoldable pub relay_address : Field (Option RelayAddressValue) FieldFault
relay_address = do
  -- Length, the number of octets that follow; 0 is no address; above 11: too_long
  count ← octet_by Short (up_to RP_LENGTH_MAX too_long)
  relay_part (count == 0) (count - 1)

-- how an address is written: the Length, the type of number and the plan with bit 7 set, the Number
-- digits
unfoldable pub relay_address_octets : RelayAddressValue → List ℕ
relay_address_octets a =
    ((length a.digits + 1) / 2 + 1) ∷ (128 + 16 * a.kind + a.plan) ∷ digit_octets a.digits

abbrev pub optional_address_octets : Option RelayAddressValue → List ℕ
optional_address_octets None = 0 ∷ []
optional_address_octets (Some a) = relay_address_octets a
