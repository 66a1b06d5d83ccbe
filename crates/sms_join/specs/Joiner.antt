-- What a joiner answers to a piece that is offered, and what it holds then. Both its lists have the
-- newest entry first.
pub mod Acts
pub mod Aging
pub mod Counts
pub mod Finishing
pub mod History
pub mod Offering
pub mod Same
pub mod Sets
pub mod Value
use Rattle.std.specs.Prelude.{ℕ, Bool, true, false, ◌||◌, nat_lt, List, [], ◌∷◌, take}
use Rattle.sms_join.specs.declared.key.Key.{Key}
use Rattle.sms_join.specs.declared.units.Units.{Units}
use Rattle.sms_join.specs.Key.{same_key}
use Rattle.sms_join.specs.Piece.{Piece}
use Rattle.sms_join.specs.Joiner.Sets.{has, has_all, is_open, open_sets, units_upto, without}

-- The pieces of all open sets, and the keys of the sets that finished last.
pub record Joiner : Type 0 where
  pub kept : List Piece
  pub finished : List Key

-- A new one has neither.
unfoldable pub new_joiner : Joiner
new_joiner = record { kept = []; finished = [] }

pub data Answer : Type 0 where
  -- nothing new
  Repeat : Answer
  -- one more piece of a set that is not whole
  Kept : Answer
  -- the set is whole: the units of its pieces, in order of sequence
  Finished : List Units → Answer
  -- one set too many
  TooManyOpen : Answer

abbrev pub is_among : List Key → Key → Bool
is_among [] k = false
is_among (x ∷ xs) k = same_key x k || is_among xs k

-- The key is remembered, or the set has this piece.
unfoldable pub is_repeat : Joiner → Piece → Bool
is_repeat j p = is_among j.finished p.key || has j.kept p.key p.sequence

-- With this piece the set has each piece from 1 to its maximum. (Counts says that it then has as
-- many as its maximum.)
unfoldable pub is_whole : Joiner → Piece → Bool
is_whole j p = has_all (p ∷ j.kept) p.key p.maximum

-- The set is open, or fewer sets than allowed are.
unfoldable pub has_room : ℕ → Joiner → Piece → Bool
has_room open_max j p = is_open j.kept p.key || nat_lt (open_sets j.kept) open_max

-- The answer is a repeat; else, where the piece makes its set whole, the whole set; else, where
-- there is room, the piece is kept; else there are too many open sets.
unfoldable pub decided : (repeat whole room : Bool) → List Units → Answer
decided true whole room units = Repeat
decided false true room units = Finished units
decided false false true units = Kept
decided false false false units = TooManyOpen

unfoldable pub answer : ℕ → Joiner → Piece → Answer
answer open_max j p =
    decided (is_repeat j p) (is_whole j p) (has_room open_max j p)
    (units_upto (p ∷ j.kept) p.key p.maximum)

-- After a repeat and after too many open sets it is as it was. A piece that is kept is added. A set
-- that is whole goes, and its key is remembered in place of the oldest, where as many are
-- remembered as can be.
unfoldable pub answered : ℕ → Joiner → Piece → Answer → Joiner
answered remembered j p Repeat = j
answered remembered j p Kept = record { kept = p ∷ j.kept; finished = j.finished }
answered remembered j p (Finished units) =
    record { kept = without j.kept p.key; finished = take remembered (p.key ∷ j.finished) }
answered remembered j p TooManyOpen = j

unfoldable pub offered : ℕ → ℕ → Joiner → Piece → Joiner
offered open_max remembered j p = answered remembered j p (answer open_max j p)
