-- The fields of which others are chains.
use Rattle.std.specs.Prelude.{◌≡◌, ℕ, ◌+◌, List, [], ◌∷◌, length, take, drop, Result, Ok, Err, nat_le, nat_lt, if◌then◌else◌}
use Rattle.sms_field.specs.Field.Lawful.{Outcome, found, refused, Field}

-- no octet, and always this value
abbrev pub always : {V W : Type 0} → V → Field V W
always value = record {
  reads = λ other octets rest. (other ≡ value) × (octets ≡ []);
  reason = λ front octet why. ⊥;
  read = λ at input. found value at input;
}

abbrev pub octet_at : {W : Type 0} → W → ℕ → List ℕ → Outcome ℕ W
octet_at short at [] = refused at short
octet_at short at (o ∷ rest) = found o (at + 1) rest

-- any octet
abbrev pub octet : {W : Type 0} → W → Field ℕ W
octet short = record {
  reads = λ value octets rest. octets ≡ value ∷ [];
  reason = λ front octet why. ⊥;
  read = octet_at short;
}

abbrev pub found_if : {V W : Type 0} → Result V W → ℕ → ℕ → List ℕ → Outcome V W
found_if (Ok value) at after rest = found value after rest
found_if (Err why) at after rest = refused at why

abbrev pub judged : {V W : Type 0} → (ℕ → Result V W) → ℕ → Outcome ℕ W → Outcome V W
judged meaning at (found o after rest) = found_if (meaning o) at after rest
judged meaning at (refused place other) = refused place other

-- an octet that has a meaning; another is refused
abbrev pub octet_by : {V W : Type 0} → W → (ℕ → Result V W) → Field V W
octet_by short meaning = record {
  reads = λ value octets rest. (o : ℕ) × (octets ≡ o ∷ []) × (meaning o ≡ Ok value);
  reason = λ front octet why. meaning octet ≡ Err why;
  read = λ at input. judged meaning at (octet_at short at input);
}

-- n octets
abbrev pub octets_of : {W : Type 0} → W → ℕ → Field (List ℕ) W
octets_of short n = record {
  reads = λ value octets rest. (octets ≡ value) × (length value ≡ n);
  reason = λ front octet why. ⊥;
  read =
      λ at input.
      (if nat_lt (length input) n
      then refused (at + length input) short
      else found (take n input) (at + n) (drop n input));
}

abbrev pub map_reason_outcome : {V W X : Type 0} → (W → X) → Outcome V W → Outcome V X
map_reason_outcome name (found value after rest) = found value after rest
map_reason_outcome name (refused place why) = refused place (name why)

-- the same field within another, whose refusals have names of their own
abbrev pub map_reason : {V W X : Type 0} → (W → X) → Field V W → Field V X
map_reason {V} {W} name f = record {
  reads = f.reads;
  reason = λ front octet other. (why : W) × (f.reason front octet why) × (other ≡ name why);
  read = λ at input. map_reason_outcome name (f.read at input);
}

-- the meaning of an octet that is a number up to a limit
abbrev pub up_to : {W : Type 0} → ℕ → W → ℕ → Result ℕ W
up_to limit why n = if nat_le n limit then Ok n else Err why
