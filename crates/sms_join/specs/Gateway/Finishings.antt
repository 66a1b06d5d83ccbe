-- When the keys that are remembered finished, and which are forgotten as time goes. All lists have
-- the newest entry first.
use Rattle.std.specs.Prelude.{ℕ, ◌+◌, ◌≤◌, Bool, false, not, if◌then◌else◌, nat_le, max, List, [], ◌∷◌, take, Option, None, Some}
use Rattle.std.specs.List.{filter}
use Rattle.sms_join.specs.declared.key.Key.{Key}
use Rattle.sms_join.specs.Joiner.{Answer, Repeat, Kept, Finished, TooManyOpen}

-- A finishing counts at the moment of the one before it, where an earlier moment is told.
abbrev pub not_before : List ℕ → ℕ → ℕ
not_before [] now = now
not_before (m ∷ ms) now = max m now

-- None is later than this moment, and none than the one ahead of it.
abbrev pub FallFrom : ℕ → List ℕ → Type 0
FallFrom n [] = Unit {0}
FallFrom n (m ∷ ms) = (m ≤ n) × FallFrom m ms

-- No moment is later than the one ahead of it.
abbrev pub Fall : List ℕ → Type 0
Fall [] = Unit {0}
Fall (m ∷ ms) = FallFrom m ms

-- An answer that finishes a set is noted, in place of the oldest, where as many keys are remembered
-- as can be.
abbrev pub finishings_after : ℕ → List ℕ → ℕ → Answer → List ℕ
finishings_after remembered ms now Repeat = ms
finishings_after remembered ms now Kept = ms
finishings_after remembered ms now (Finished units) = take remembered (not_before ms now ∷ ms)
finishings_after remembered ms now TooManyOpen = ms

-- The finishing came this many seconds before the moment, or earlier. Where no number is told, none
-- is forgotten.
abbrev pub is_forgotten : Option ℕ → ℕ → ℕ → Bool
is_forgotten None now m = false
is_forgotten (Some longest) now m = nat_le (m + longest) now

-- The finishings that are not forgotten by the moment.
abbrev pub finishings_at : Option ℕ → ℕ → List ℕ → List ℕ
finishings_at longest now ms = filter (λ m. not (is_forgotten longest now m)) ms

-- The keys, each with the moment of its finishing, that are not forgotten by the moment.
abbrev pub keys_at : Option ℕ → ℕ → List Key → List ℕ → List Key
keys_at longest now [] ms = []
keys_at longest now (k ∷ ks) [] = []
keys_at longest now (k ∷ ks) (m ∷ ms) =
    if is_forgotten longest now m then keys_at longest now ks ms else k ∷ keys_at longest now ks ms
