-- Numbers of 1 to 10 decimal digits; zeros may come first.
use Rattle.std.specs.Prelude.{ℕ, ◌+◌, ◌-◌, ◌*◌, List, [], ◌∷◌, length, Bool, true, ◌&&◌, nat_le, Option, Some, None, if◌then◌else◌, Result}
use Rattle.sms_script.specs.Reasons.{some_or}
use Rattle.sms_script.specs.declared.fault.ScriptFault.{ScriptFault}
use Rattle.sms_script.specs.declared.fault.ScriptFault.TheVariants.{BadNumber}

abbrev pub is_digit : ℕ → Bool
is_digit c = nat_le 48 c && nat_le c 57

abbrev pub are_digits : List ℕ → Bool
are_digits [] = true
are_digits (c ∷ more) = is_digit c && are_digits more

-- the number that digits are after others that are the number `first`
abbrev pub value_after : ℕ → List ℕ → ℕ
value_after first [] = first
value_after first (c ∷ more) = value_after (10 * first + (c - 48)) more

abbrev pub value : List ℕ → ℕ
value digits = value_after 0 digits

abbrev pub is_number : List ℕ → Bool
is_number word = nat_le 1 (length word) && nat_le (length word) 10 && are_digits word

abbrev pub is_within : ℕ → ℕ → ℕ → Bool
is_within low high n = nat_le low n && nat_le n high

-- the number of a word, where it is from low to high
abbrev pub number : ℕ → ℕ → List ℕ → Option ℕ
number low high word =
    if is_number word && is_within low high (value word) then Some (value word) else None

abbrev pub in_range : ℕ → ℕ → List ℕ → Result ℕ ScriptFault
in_range low high word = some_or (number low high word) BadNumber
