-- What is known of the values that a field reads from octets.
use Rattle.std.specs.Prelude.{ℕ, List, Option, Some, None}
use Rattle.sms_text.specs.Octets.{IsOctets}
use Rattle.sms_field.specs.Field.{Field, ◌>>=◌}

-- every value that is read from octets has the property
abbrev pub Has : {V W : Type 0} → (V → Type 0) → Field V W → Type 0
Has {V} P f =
    (value : V) (octets rest : List ℕ) → IsOctets octets → f.reads value octets rest → P value

-- what is known of the values of two fields is known of those of their chain
abbrev pub ChainHas : {A B W : Type 0} → (A → Type 0) → (B → Type 0) → Field A W → (A → Field B W)
    → Type 0
ChainHas {A} Q P first second =
    Has Q first → ((a : A) → Q a → Has P (second a)) → Has P (first >>= second)

-- nothing is known
abbrev pub Any : {V : Type 0} → V → Type 0
Any value = Unit {0}

-- octets, where there are any
abbrev pub AreOptionalOctets : Option (List ℕ) → Type 0
AreOptionalOctets None = Unit {0}
AreOptionalOctets (Some octets) = IsOctets octets
