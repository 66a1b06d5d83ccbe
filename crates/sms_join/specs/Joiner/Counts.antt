-- A set is whole just where it has as many pieces as its maximum.
use Rattle.std.specs.Prelude.{◌≡◌, ℕ, suc, ◌<◌, ◌≤◌, false, if◌then◌else◌, ◌==◌, List, [], ◌∷◌}
use Rattle.sms_join.specs.declared.key.Key.{Key}
use Rattle.sms_join.specs.Key.{same_key, maximum_of}
use Rattle.sms_join.specs.Piece.{Piece}
use Rattle.sms_join.specs.Joiner.{is_repeat, is_whole, new_joiner}
use Rattle.sms_join.specs.Joiner.Acts.{Act, brought, acted_all}

-- How many pieces the set has.
abbrev pub count_of : List Piece → Key → ℕ
count_of [] k = 0
count_of (p ∷ ps) k = if same_key p.key k then suc (count_of ps k) else count_of ps k

-- The piece has a place in its set: the sequence is from 1 to the maximum, which is that of the
-- key.
pub record IsInSet (p : Piece) : Type 0 where
  pub from_one : 0 < p.sequence
  pub within : p.sequence ≤ p.maximum
  pub maximum : p.maximum ≡ maximum_of p.key

abbrev pub AreInSets : List Piece → Type 0
AreInSets [] = Unit {0}
AreInSets (p ∷ ps) = IsInSet p × AreInSets ps

-- After any offers to a new joiner and agings, the newest first, a piece that is no repeat makes
-- its set whole just where the set then has as many pieces as its maximum.
abbrev pub WholeByCount : Type 0
WholeByCount =
    (open_max remembered : ℕ) (p : Piece) (acts : List (Act Piece)) → AreInSets (p ∷ brought acts)
    → is_repeat (acted_all open_max remembered new_joiner acts) p ≡ false
    → is_whole (acted_all open_max remembered new_joiner acts) p
    ≡ (suc (count_of (acted_all open_max remembered new_joiner acts).kept p.key) == p.maximum)
