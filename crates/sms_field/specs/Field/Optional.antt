-- Parts that may be there: where an earlier octet says so, or exactly where the next octet is their
-- tag.
use Rattle.std.specs.Prelude.{◌≡◌, ◌≢◌, ℕ, ◌+◌, Bool, true, false, List, [], ◌∷◌, Option, Some, None, ◌==◌, if◌then◌else◌}
use Rattle.sms_field.specs.Field.{Field, Outcome, found, refused, ◌>>=◌, always}

-- a part that is there or not, as is known before
abbrev pub part_if : {V W : Type 0} → Bool → Field V W → Field (Option V) W
part_if false part = always None
part_if true part = do
  value ← part
  always (Some value)

-- ---- after a tag

-- nothing follows, or another octet than the tag
abbrev pub LacksTag : ℕ → List ℕ → Type 0
LacksTag tag [] = Unit {0}
LacksTag tag (octet ∷ rest) = octet ≢ tag

abbrev pub ReadsTagged : {V W : Type 0} → ℕ → Field V W → Option V → List ℕ → List ℕ → Type 0
ReadsTagged tag part None octets rest = (octets ≡ []) × LacksTag tag rest
ReadsTagged tag part (Some value) octets rest =
    (others : List ℕ) × (octets ≡ tag ∷ others) × part.reads value others rest

abbrev pub some_found : {V W : Type 0} → Outcome V W → Outcome (Option V) W
some_found (found value after rest) = found (Some value) after rest
some_found (refused place why) = refused place why

abbrev pub tagged_at : {V W : Type 0} → ℕ → Field V W → ℕ → List ℕ → Outcome (Option V) W
tagged_at tag part at [] = found None at []
tagged_at tag part at (octet ∷ rest) =
    if octet == tag then some_found (part.read (at + 1) rest) else found None at (octet ∷ rest)

abbrev pub after_tag : {V W : Type 0} → ℕ → Field V W → List ℕ → ℕ → W → Type 0
after_tag tag part [] octet why = ⊥
after_tag tag part (first ∷ front) octet why = part.reason front octet why

abbrev pub tagged : {V W : Type 0} → ℕ → Field V W → Field (Option V) W
tagged tag part = record {
  reads = ReadsTagged tag part;
  reason = after_tag tag part;
  read = tagged_at tag part;
}
