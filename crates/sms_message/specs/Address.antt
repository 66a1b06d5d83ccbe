-- Phones and their addresses. A phone is its number among them, from 0.
use Rattle.std.specs.Prelude.{ℕ, zero, suc, ◌&&◌, Bool, true, not, List, [], ◌∷◌, Option, position}
use Rattle.std.specs.List.{list_any}
use Rattle.sms_field.specs.Address.Value.{AddressValue}
use Rattle.sms_field.specs.declared.symbols.Symbols.TheVariants.{Digits}
use Rattle.sms_field.specs.Address.Same.{same_address}

-- No two of the phones have one address: type of number, plan, and digits or name.
abbrev pub are_distinct : List AddressValue → Bool
are_distinct [] = true
are_distinct (a ∷ phones) = not (list_any (same_address a) phones) && are_distinct phones

-- the number of the phone with this address
abbrev pub phone_at : List AddressValue → AddressValue → Option ℕ
phone_at phones target = position (λ a. same_address a target) phones

abbrev pub address_of : List AddressValue → ℕ → AddressValue
address_of [] n = record { kind = 0; plan = 0; symbols = Digits [] }
address_of (a ∷ phones) zero = a
address_of (a ∷ phones) (suc n) = address_of phones n
