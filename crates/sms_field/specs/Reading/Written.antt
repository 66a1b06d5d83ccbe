-- What is promised of values that have a spelling, and of the octets that they are written in.
use Rattle.std.specs.Prelude.{ℕ, ◌≤◌, List, length}
use Rattle.sms_text.specs.Octets.{IsOctets}
use Rattle.sms_field.specs.Field.{Field}

-- they are octets
abbrev pub AreOctetsOf : {V : Type 0} → (V → Type 0) → (V → List ℕ) → Type 0
AreOctetsOf {V} is octets_of = (value : V) → is value → IsOctets (octets_of value)

-- they are no more than a limit
abbrev pub AreAtMost : {V : Type 0} → ℕ → (V → Type 0) → (V → List ℕ) → Type 0
AreAtMost {V} limit is octets_of = (value : V) → is value → length (octets_of value) ≤ limit

-- and they are read back, whatever follows
abbrev pub AreReadBack : {V W : Type 0} → Field V W → (V → Type 0) → (V → List ℕ) → Type 0
AreReadBack {V} field is octets_of =
    (value : V) (rest : List ℕ) → is value → field.reads value (octets_of value) rest
