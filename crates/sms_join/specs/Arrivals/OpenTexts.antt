-- The texts that have arrived in part, one set each; and when a piece is turned away. Lists have
-- the newest entry first.
use Rattle.std.specs.Prelude.{◌≡◌, ℕ, ◌≤◌, true, false, List, ◌∷◌, length}
use Rattle.sms_join.specs.Joiner.Sets.{open_sets}
use Rattle.sms_join.specs.Joiner.{Joiner, TooManyOpen, answer, is_repeat, is_whole}
use Rattle.sms_join.specs.Joiner.Aging.{is_old, aged}
use Rattle.sms_join.specs.Arrivals.{Arrival, Texts, IsOf, AllOf, has_text, is_done, completed, open_pieces, open_texts, OpenApart, is_listed, remaining}
use Rattle.sms_join.specs.Arrivals.Joining.{HoldsOpen, is_clear, is_recent}

-- As many sets are open as texts are.
abbrev pub OpenSetsAreOpenTexts : Type 0
OpenSetsAreOpenTexts =
    (x : Texts) (past : List Arrival) → AllOf x past → OpenApart x.key x.size past
    → open_sets (open_pieces x.size past past) ≡ length (open_texts x.size past past)

-- An arrival in order leaves no two open texts with one key.
abbrev pub StayApart : Type 0
StayApart =
    (remembered : ℕ) (x : Texts) (a : Arrival) (past : List Arrival) → AllOf x past → IsOf x a
    → is_clear remembered x.size past past a ≡ true → OpenApart x.key x.size past
    → OpenApart x.key x.size (a ∷ past)

-- After an aging the joiner holds just what has arrived of the open texts that remain; the
-- completed texts are those of before, and still no two open texts have one key.
pub record StaysRight (remembered now : ℕ) (x : Texts) (past : List Arrival)
    (j : Joiner) : Type 0 where
  pub holds : HoldsOpen remembered x (remaining x.size (is_old now j.kept) past past) (aged now j)
  pub completed : completed x.size (remaining x.size (is_old now j.kept) past past)
      ≡ completed x.size past
  pub apart : OpenApart x.key x.size past
      → OpenApart x.key x.size (remaining x.size (is_old now j.kept) past past)

-- One aging, at a joiner that holds just what has arrived of the open texts.
abbrev pub AgesOne : Type 0
AgesOne =
    (now remembered : ℕ) (x : Texts) (past : List Arrival) (j : Joiner) → AllOf x past
    → HoldsOpen remembered x past j
    → StaysRight remembered now x past j

-- The piece is of a text that is not complete, and makes its set whole just where it completes the
-- text.
pub record IsFresh (x : Texts) (past : List Arrival) (a : Arrival) (j : Joiner) : Type 0 where
  pub unlisted : is_listed (completed x.size past) a.text ≡ false
  pub unfinished : is_done x.size past a.text ≡ false
  pub whole : is_whole j a.piece ≡ is_done x.size (a ∷ past) a.text

-- A piece that arrives in order and is no repeat is of a text that is not complete.
abbrev pub NewIsFresh : Type 0
NewIsFresh =
    (open_max remembered : ℕ) (x : Texts) (past : List Arrival) (a : Arrival) (j : Joiner)
    → AllOf x past → HoldsOpen remembered x past j → IsOf x a
    → is_clear remembered x.size past past a ≡ true → is_recent remembered x.size past a ≡ true
    → is_repeat j a.piece ≡ false → IsFresh x past a j

-- As many texts are open as may be, none of its pieces has arrived, and it does not complete its
-- text.
pub record IsTurnedAway (open_max : ℕ) (x : Texts) (past : List Arrival)
    (a : Arrival) : Type 0 where
  pub full : open_max ≤ length (open_texts x.size past past)
  pub none_taken : has_text past a.text ≡ false
  pub incomplete : is_done x.size (a ∷ past) a.text ≡ false

-- When a piece that arrives in order is turned away.
abbrev pub TurnsAway : Type 0
TurnsAway =
    (open_max remembered : ℕ) (x : Texts) (past : List Arrival) (a : Arrival) (j : Joiner)
    → AllOf x past → HoldsOpen remembered x past j → OpenApart x.key x.size past → IsOf x a
    → is_clear remembered x.size past past a ≡ true → is_recent remembered x.size past a ≡ true
    → answer open_max j a.piece ≡ TooManyOpen → IsTurnedAway open_max x past a
