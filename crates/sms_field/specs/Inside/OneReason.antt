-- A reader may pass this by: contracts of private functions, and proofs, alone cite it.
use Rattle.std.specs.Prelude.{◌≡◌, ℕ, ◌⊎◌, List, ◌++◌}
use Rattle.sms_field.specs.Field.{Field}

-- of an octet that cannot stand there is one reason
abbrev pub HasOneReason : {V W : Type 0} → Field V W → Type 0
HasOneReason {V} {W} f =
    (front : List ℕ) (octet : ℕ) (why because : W) → f.reason front octet why
    → f.reason front octet because → because ≡ why

-- a list is read in one way, whatever numbers it has
abbrev pub ReadsOneWay : {V W : Type 0} → Field V W → Type 0
ReadsOneWay {V} f =
    (v w : V) (xs ys rest left : List ℕ) → f.reads v xs rest → f.reads w ys left
    → xs ++ rest ≡ ys ++ left → (w ≡ v) × (ys ≡ xs)

-- whether a reason is this one is known
abbrev pub IsKnown : {W : Type 0} → W → Type 0
IsKnown {W} short = (why : W) → (why ≡ short) ⊎ (why ≡ short → ⊥)
