-- Digits in octets, two an octet, the first in the low half (3GPP TS 23.040, 9.1.2.3).
use Rattle.std.specs.Prelude.{ℕ, zero, suc, ◌+◌, ◌*◌, ◌/◌, ◌%◌, List, [], ◌∷◌, Result, Ok, Err, ◌&&◌, nat_lt, if◌then◌else◌}
use Rattle.sms_field.specs.Field.{Field, ◌>>=◌, always, octet_by}
use Rattle.sms_field.specs.declared.fault.FieldFault.{FieldFault}
use Rattle.sms_field.specs.declared.fault.FieldFault.TheVariants.{Short}
use Rattle.sms_field.specs.Address.Faults.{bad_digit}

-- the digit in the low half of an octet, where the high half is not used
abbrev pub low_digit : ℕ → Result ℕ FieldFault
low_digit octet = if nat_lt (octet % 16) 15 then Ok (octet % 16) else Err bad_digit

-- the digits in both halves, the low half first
abbrev pub both_digits : ℕ → Result (ℕ × ℕ) FieldFault
both_digits octet =
    if nat_lt (octet % 16) 15 && nat_lt (octet / 16) 15
    then Ok (octet % 16, octet / 16)
    else Err bad_digit

-- digits, as many as are counted, two an octet; after an odd last one the high half is not used
unfoldable pub digits : ℕ → Field (List ℕ) FieldFault
digits zero = always []
digits (suc zero) = do
  -- bad_digit: the low half is 15
  digit ← octet_by Short low_digit
  always (digit ∷ [])
digits (suc (suc n)) = do
  -- bad_digit: one of the halves is 15
  two ← octet_by Short both_digits
  others ← digits n
  always (two.0 ∷ two.1 ∷ others)

-- how digits are written: after an odd last one the high half is 15
unfoldable pub digit_octets : List ℕ → List ℕ
digit_octets [] = []
digit_octets (digit ∷ []) = (240 + digit) ∷ []
digit_octets (low ∷ high ∷ others) = (16 * high + low) ∷ digit_octets others
