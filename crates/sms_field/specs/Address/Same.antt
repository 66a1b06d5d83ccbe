-- When two addresses are the same (3GPP TS 23.040, 9.1.2.5).
use Rattle.std.specs.Prelude.{◌≡◌, Bool, true, false, ◌&&◌, ◌==◌, ◌↔◌}
use Rattle.std.specs.Str.{bytes_eq}
use Rattle.sms_field.specs.Address.Value.{AddressValue}
use Rattle.sms_field.specs.declared.symbols.Symbols.{Symbols}
use Rattle.sms_field.specs.declared.symbols.Symbols.TheVariants.{Digits, Name}

-- the same digits, or the same septets of a name
abbrev pub same_symbols : Symbols → Symbols → Bool
same_symbols (Digits xs) (Digits ys) = bytes_eq xs ys
same_symbols (Name xs) (Name ys) = bytes_eq xs ys
same_symbols (Digits xs) (Name ys) = false
same_symbols (Name xs) (Digits ys) = false

-- the same type of number, plan, and digits or name
unfoldable pub same_address : AddressValue → AddressValue → Bool
same_address a b = a.kind == b.kind && (a.plan == b.plan && same_symbols a.symbols b.symbols)

-- ---- laws

-- they are the same just where they are equal
abbrev pub SameIsEqual : Type 0
SameIsEqual = (a b : AddressValue) → (same_address a b ≡ true) ↔ (a ≡ b)

-- so it is an equivalence
abbrev pub SameIsReflexive : Type 0
SameIsReflexive = (a : AddressValue) → same_address a a ≡ true

abbrev pub SameIsSymmetric : Type 0
SameIsSymmetric = (a b : AddressValue) → same_address a b ≡ same_address b a

abbrev pub SameIsTransitive : Type 0
SameIsTransitive =
    (a b c : AddressValue) → same_address a b ≡ true → same_address b c ≡ true
    → same_address a c ≡ true
