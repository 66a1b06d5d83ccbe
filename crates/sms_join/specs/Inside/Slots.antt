-- A reader may pass this by: contracts of private functions, and proofs, alone cite it.
--
-- How the pieces of one open set lie in code: each at the place of its sequence.
use Rattle.std.specs.Prelude.{◌≡◌, ℕ, ◌-◌, ◌<◌, ◌≤◌, Bool, List, [], ◌∷◌, length, map, slice_get, Option, Some, None, unwrap_or}
use Rattle.std.proofs.Math.ListN.{set, replicate}
use Rattle.sms_join.specs.declared.key.Key.{Key}
use Rattle.sms_join.specs.declared.units.Units.{Units}
use Rattle.sms_join.specs.contracts.key.KeyPartialEq.TheImpl as derived
use Rattle.sms_join.specs.Key.{maximum_of}
use Rattle.sms_join.specs.OpenSets.{SetValue}
use Rattle.sms_join.specs.OpenSets.Places.{set_by}

-- what `==` answers for keys
abbrev pub key_eq : Key → Key → Bool
key_eq = (derived.ghosts).eq

-- the moment of the set's first piece; the number of its opening, and at which seat of the line that stands; and at each place, of
-- which the first is that of sequence 1, the units of the piece that has come
pub record SlotValue : Type 0 where
  pub opened : ℕ
  pub turn : ℕ
  pub seat : ℕ
  pub places : List (Option Units)

-- the units at each place, and these where none have come
abbrev pub filled_with : Units → List (Option Units) → List Units
filled_with u ps = map (λ p. unwrap_or p u) ps

-- as many places as the set has pieces, of which one has come
abbrev pub first_places : ℕ → ℕ → Units → List (Option Units)
first_places maximum n u = set (replicate maximum None) (n - 1) (Some u)

-- the pieces of a set that have come, in order of sequence
abbrev pub set_of : Key × SlotValue → SetValue
set_of e = set_by e.0 e.1.opened e.1.turn e.1.places

abbrev pub sets_of : List (Key × SlotValue) → List SetValue
sets_of [] = []
sets_of (e ∷ es) = set_of e ∷ sets_of es

-- Each set has a place for each of its pieces.
abbrev pub AreSlots : List (Key × SlotValue) → Type 0
AreSlots [] = Unit {0}
AreSlots (e ∷ es) = (length e.1.places ≡ maximum_of e.0) × AreSlots es

-- What holds of the set at this index.
abbrev pub At : List SetValue → ℕ → (SetValue → Type 0) → Type 0
At ss i P = (s : SetValue) → slice_get ss i ≡ Some s → P s

-- There is a set at this index, and it has a piece of this sequence.
pub record HasPlace (ss : List SetValue) (i n : ℕ) : Type 0 where
  pub own : SetValue
  pub there : slice_get ss i ≡ Some own
  pub from_one : 0 < n
  pub within : n ≤ maximum_of own.key
