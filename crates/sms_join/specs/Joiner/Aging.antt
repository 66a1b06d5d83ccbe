-- Open sets are dropped when they have been open for too long. Lists have the newest entry first.
use Rattle.std.specs.Prelude.{◌≤◌, ℕ, ◌+◌, Bool, ◌&&◌, if◌then◌else◌, nat_le, List, [], ◌∷◌}
use Rattle.sms_join.specs.declared.key.Key.{Key}
use Rattle.sms_join.specs.Piece.{Piece}
use Rattle.sms_join.specs.Joiner.Sets.{is_open, opened_at, open_sets}
use Rattle.sms_join.specs.Joiner.{Joiner, offered}
use Rattle.sms_join.specs.Joiner.Same.{IsSame}

-- The set is open, and was opened 604,800 seconds before this moment, which are seven days, or
-- earlier.
abbrev pub is_old : ℕ → List Piece → Key → Bool
is_old now ps k = is_open ps k && nat_le (opened_at ps k + 604800) now

-- The same for another number of seconds.
abbrev pub is_old_after : ℕ → ℕ → List Piece → Key → Bool
is_old_after longest now ps k = is_open ps k && nat_le (opened_at ps k + longest) now

-- The pieces of the sets that are not old.
abbrev pub young : (Key → Bool) → List Piece → List Piece
young old [] = []
young old (p ∷ ps) = if old p.key then young old ps else p ∷ young old ps

-- Old sets are dropped; remembered keys are not.
unfoldable pub aged : ℕ → Joiner → Joiner
aged now j = record { kept = young (is_old now j.kept) j.kept; finished = j.finished }

unfoldable pub aged_after : ℕ → ℕ → Joiner → Joiner
aged_after longest now j =
    record { kept = young (is_old_after longest now j.kept) j.kept; finished = j.finished }

-- Where two joiners hold the same, they do so after an aging.
abbrev pub AgesAlike : Type 0
AgesAlike = (now : ℕ) (i j : Joiner) → IsSame i j → IsSame (aged now i) (aged now j)

-- No offer and no aging opens a set too many.
abbrev pub SetsStayFew : Type 0
SetsStayFew =
    ((open_max remembered : ℕ) (j : Joiner) (p : Piece) → open_sets j.kept ≤ open_max
    → open_sets (offered open_max remembered j p).kept ≤ open_max)
    × ((now : ℕ) (j : Joiner) → open_sets (aged now j).kept ≤ open_sets j.kept)
