-- A part that is there exactly where another octet follows.
use Rattle.std.specs.Prelude.{◌≡◌, ℕ, ◌⊎◌, List, [], ◌∷◌}
use Rattle.sms_field.specs.Field.{Field, Outcome, found}

-- the input ends here, which stands for a value
abbrev pub IsEnd : {V : Type 0} → V → V → List ℕ → List ℕ → Type 0
IsEnd none value octets rest = (value ≡ none) × (octets ≡ []) × (rest ≡ [])

abbrev pub read_if_more : {V W : Type 0} → V → Field V W → ℕ → List ℕ → Outcome V W
read_if_more none part at [] = found none at []
read_if_more none part at (octet ∷ rest) = part.read at (octet ∷ rest)

-- this value where no octet follows, and else what is read as the part
abbrev pub if_more : {V W : Type 0} → V → Field V W → Field V W
if_more none part = record {
  reads = λ value octets rest. IsEnd none value octets rest ⊎ part.reads value octets rest;
  reason = part.reason;
  read = read_if_more none part;
}
