-- A part of which the first octet tells the kind, and is itself a part of it.
use Rattle.std.specs.Prelude.{◌≡◌, ℕ, List, [], ◌∷◌, Result, Ok, Err}
use Rattle.sms_field.specs.Field.{Field, Outcome, refused}

-- the first octet tells this kind
abbrev pub StartsWith : {K W : Type 0} → (ℕ → Result K W) → K → List ℕ → Type 0
StartsWith kind k [] = ⊥
StartsWith kind k (octet ∷ rest) = kind octet ≡ Ok k

-- the octets are read as the kind that their first one tells
pub record ReadsByFirst {K V W : Type 0} (kind : ℕ → Result K W) (field : K → Field V W) (value : V)
    (octets rest : List ℕ) : Type 0 where
  pub chosen : K
  pub starts : StartsWith kind chosen octets
  pub read : (field chosen).reads value octets rest

-- the reason of the kind; or why the first octet tells none
abbrev pub reason_of : {K V W : Type 0} → Result K W → (K → Field V W) → List ℕ → ℕ → W → Type 0
reason_of (Ok k) field front octet why = (field k).reason front octet why
reason_of (Err other) field front octet why = why ≡ other

abbrev pub reason_by_first : {K V W : Type 0} → (ℕ → Result K W) → (K → Field V W) → List ℕ → ℕ → W
    → Type 0
reason_by_first kind field [] octet why = reason_of (kind octet) field [] octet why
reason_by_first kind field (first ∷ front) octet why =
    reason_of (kind first) field (first ∷ front) octet why

abbrev pub read_as_kind : {K V W : Type 0} → Result K W → (K → Field V W) → ℕ → List ℕ → Outcome V W
read_as_kind (Ok k) field at input = (field k).read at input
read_as_kind (Err why) field at input = refused at why

abbrev pub read_by_first : {K V W : Type 0} → W → (ℕ → Result K W) → (K → Field V W) → ℕ → List ℕ
    → Outcome V W
read_by_first short kind field at [] = refused at short
read_by_first short kind field at (octet ∷ rest) =
    read_as_kind (kind octet) field at (octet ∷ rest)

abbrev pub by_first : {K V W : Type 0} → W → (ℕ → Result K W) → (K → Field V W) → Field V W
by_first short kind field = record {
  reads = ReadsByFirst kind field;
  reason = reason_by_first kind field;
  read = read_by_first short kind field;
}
