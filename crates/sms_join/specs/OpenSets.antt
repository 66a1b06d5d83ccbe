-- The open sets, each with its pieces in order of sequence.
pub mod Offered
pub mod Places
pub mod Told
use Rattle.std.specs.Prelude.{◌≡◌, ℕ, suc, ◌<◌, ◌≤◌, Bool, false, ◌||◌, if◌then◌else◌, ◌==◌, nat_lt, List, [], ◌∷◌, ◌++◌, length, Option, None, Some}
use Rattle.std.specs.List.{insert}
use Rattle.sms_join.specs.declared.key.Key.{Key}
use Rattle.sms_join.specs.declared.units.Units.{Units}
use Rattle.sms_join.specs.Key.{same_key, maximum_of}
use Rattle.sms_join.specs.Piece.{Piece}

pub record SetValue : Type 0 where
  pub key : Key
  -- the moment of its first piece
  pub opened : ℕ
  -- the number of its opening: a set that is opened later has a greater one
  pub turn : ℕ
  -- the sequences of the pieces that have come, and the units of each
  pub sequences : List ℕ
  pub units : List Units

-- Numbers above the lower limit that rise to at most the upper one.
abbrev pub Rises : ℕ → List ℕ → ℕ → Type 0
Rises low [] high = low ≤ high
Rises low (n ∷ ns) high = (low < n) × Rises n ns high

-- The sequences rise from at least 1 to at most the maximum, and each has its units.
pub record IsSet (s : SetValue) : Type 0 where
  pub rising : Rises 0 s.sequences (maximum_of s.key)
  pub as_many : length s.units ≡ length s.sequences

-- Some pieces of an open set are there, and some not.
pub record IsOpen (s : SetValue) : Type 0 where
  pub is_set : IsSet s
  pub some : 0 < length s.sequences
  pub part : length s.sequences < maximum_of s.key

abbrev pub pieces_with : Key → ℕ → List ℕ → List Units → List Piece
pieces_with k opened [] us = []
pieces_with k opened (n ∷ ns) [] = []
pieces_with k opened (n ∷ ns) (u ∷ us) =
    record { key = k; maximum = maximum_of k; sequence = n; units = u; moment = opened }
    ∷ pieces_with k opened ns us

abbrev pub pieces_in : SetValue → List Piece
pieces_in s = pieces_with s.key s.opened s.sequences s.units

abbrev pub all_pieces : List SetValue → List Piece
all_pieces [] = []
all_pieces (s ∷ ss) = pieces_in s ++ all_pieces ss

abbrev pub has_set : List SetValue → Key → Bool
has_set [] k = false
has_set (s ∷ ss) k = same_key s.key k || has_set ss k

-- The sets are open, and no two have one key.
abbrev pub AreOpen : List SetValue → Type 0
AreOpen [] = Unit {0}
AreOpen (s ∷ ss) = IsOpen s × (has_set ss s.key ≡ false) × AreOpen ss

abbrev pub is_in : ℕ → List ℕ → Bool
is_in n [] = false
is_in n (m ∷ ms) = m == n || is_in n ms

-- the units of the piece of this sequence, where it has come
abbrev pub units_for : ℕ → List ℕ → List Units → Option Units
units_for n [] us = None
units_for n (m ∷ ms) [] = None
units_for n (m ∷ ms) (u ∷ us) = if m == n then Some u else units_for n ms us

-- before which index this sequence belongs
abbrev pub place_of : ℕ → List ℕ → ℕ
place_of n [] = 0
place_of n (m ∷ ms) = if nat_lt m n then suc (place_of n ms) else 0

-- the set with one more piece
abbrev pub with_piece : SetValue → ℕ → Units → SetValue
with_piece s n u =
    record s {
      sequences = insert s.sequences (place_of n s.sequences) n;
      units = insert s.units (place_of n s.sequences) u;
    }
