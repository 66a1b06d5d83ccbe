-- In which order texts are completed. Lists have the newest entry first.
use Rattle.std.specs.Prelude.{◌≡◌, ◌↔◌, ℕ, true, false, List, ◌∷◌, ◌++◌}
use Rattle.sms_join.specs.Arrivals.{Arrival, has_text, is_done, completed, is_listed}

-- The first text stands before the second, counted from the oldest.
pub record StandsBefore (texts : List ℕ) (t u : ℕ) : Type 0 where
  pub newer : List ℕ
  pub older : List ℕ
  pub parts : texts ≡ newer ++ u ∷ older
  pub there : is_listed older t ≡ true

-- At some time each piece of the first text had arrived, and not each of the second: the last
-- missing piece of the first came earlier.
pub record CameEarlier (size : ℕ → ℕ) (past : List Arrival) (t u : ℕ) : Type 0 where
  pub later : List Arrival
  pub earlier : List Arrival
  pub parts : past ≡ later ++ earlier
  pub whole : is_done size earlier t ≡ true
  pub missing : is_done size earlier u ≡ false

-- A completed text has arrived whole.
abbrev pub CompletedAreWhole : Type 0
CompletedAreWhole =
    (size : ℕ → ℕ) (past : List Arrival) (t : ℕ) → is_listed (completed size past) t ≡ true
    → (is_done size past t ≡ true) × (has_text past t ≡ true)

-- One completed text stands before another just where its last missing piece came earlier.
abbrev pub CompleteInOrder : Type 0
CompleteInOrder =
    (size : ℕ → ℕ) (past : List Arrival) (t u : ℕ)
    → is_listed (completed size past) t ≡ true → is_listed (completed size past) u ≡ true
    → (StandsBefore (completed size past) t u ↔ CameEarlier size past t u)
