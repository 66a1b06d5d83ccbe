-- Which pieces make their set whole, and that holding the same is an equivalence.
use Rattle.std.specs.Prelude.{◌≡◌, ℕ, suc, Bool, true, false, not, ◌&&◌, ◌==◌, length}
use Rattle.sms_join.specs.Key.{maximum_of}
use Rattle.sms_join.specs.OpenSets.{SetValue, is_in}
use Rattle.sms_join.specs.Piece.{Piece}
use Rattle.sms_join.specs.Joiner.{Joiner, Answer, Repeat, Kept, Finished, TooManyOpen, is_repeat, is_whole, answer}
use Rattle.sms_join.specs.Joiner.Same.{IsSame}

-- The piece is no repeat, and with it its set has each piece.
abbrev pub would_finish : Joiner → Piece → Bool
would_finish j p = not (is_repeat j p) && is_whole j p

-- The set has no such piece, and all others.
abbrev pub lacks_only : SetValue → ℕ → Bool
lacks_only s n = not (is_in n s.sequences) && suc (length s.sequences) == maximum_of s.key

abbrev pub is_finished : Answer → Bool
is_finished Repeat = false
is_finished Kept = false
is_finished (Finished units) = true
is_finished TooManyOpen = false

-- A piece that would finish its set is answered so, and no other one is.
abbrev pub AnswerFinishes : Type 0
AnswerFinishes =
    (open_max : ℕ) (j : Joiner) (p : Piece) → is_finished (answer open_max j p) ≡ would_finish j p

-- Each joiner holds the same as itself; where one holds the same as another, so does the other; and
-- so on along a chain.
abbrev pub SameIsEquivalence : Type 0
SameIsEquivalence =
    ((j : Joiner) → IsSame j j) × ((i j : Joiner) → IsSame i j → IsSame j i)
    × ((i j k : Joiner) → IsSame i j → IsSame j k → IsSame i k)
