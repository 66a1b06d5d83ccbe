-- Sets of pieces that are open at one time, each known by its key. The pieces of all sets stand in
-- one list, the newest first.
use Rattle.std.specs.Prelude.{ℕ, zero, suc, Bool, true, false, not, ◌&&◌, ◌||◌, if◌then◌else◌, ◌==◌, List, [], ◌∷◌, ◌++◌}
use Rattle.sms_join.specs.declared.key.Key.{Key}
use Rattle.sms_join.specs.declared.units.Units.{Units}
use Rattle.sms_join.specs.declared.units.Units.TheVariants.{Gsm}
use Rattle.sms_join.specs.Key.{same_key}
use Rattle.sms_join.specs.Piece.{Piece}

-- The set of this key has a piece of this sequence.
abbrev pub has : List Piece → Key → ℕ → Bool
has [] k n = false
has (p ∷ ps) k n = (same_key p.key k && p.sequence == n) || has ps k n

-- A set is open where it has a piece.
abbrev pub is_open : List Piece → Key → Bool
is_open [] k = false
is_open (p ∷ ps) k = same_key p.key k || is_open ps k

-- How many sets are open: each counts by its oldest piece.
abbrev pub open_sets : List Piece → ℕ
open_sets [] = 0
open_sets (p ∷ ps) = if is_open ps p.key then open_sets ps else suc (open_sets ps)

-- The moment at which the set was opened, that of its oldest piece; 0 where it is not open.
abbrev pub opened_at : List Piece → Key → ℕ
opened_at [] k = 0
opened_at (p ∷ ps) k = if same_key p.key k && not (is_open ps k) then p.moment else opened_at ps k

-- The set has each piece from the first to this one.
abbrev pub has_all : List Piece → Key → ℕ → Bool
has_all ps k zero = true
has_all ps k (suc n) = has ps k (suc n) && has_all ps k n

-- The units of the set's piece of this sequence; none where it has no such piece.
abbrev pub units_at : List Piece → Key → ℕ → Units
units_at [] k n = Gsm []
units_at (p ∷ ps) k n = if same_key p.key k && p.sequence == n then p.units else units_at ps k n

-- The units of the set's pieces from the first to this one, in order of sequence.
abbrev pub units_upto : List Piece → Key → ℕ → List Units
units_upto ps k zero = []
units_upto ps k (suc n) = units_upto ps k n ++ units_at ps k (suc n) ∷ []

-- The pieces of all other sets.
abbrev pub without : List Piece → Key → List Piece
without [] k = []
without (p ∷ ps) k = if same_key p.key k then without ps k else p ∷ without ps k
