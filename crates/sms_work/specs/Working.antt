-- What works through lines, one after another, with the output at hand.
use Rattle.std.specs.Prelude.{◌≡◌, ◌⊎◌, ℕ, List, [], ◌∷◌, ◌++◌, Option}
use Rattle.sms_feed.specs.Lines.{few, next_number}
use Rattle.sms_feed.specs.Shown.{Stays}
use Rattle.sms_feed.specs.Takers.{Standing}

-- What a worker does with a line, by its number and its octets, or none where these are too many:
-- how it, the output and the page stand before and after.
abbrev pub Does : Type 0 → Type 1
Does T = Standing T → ℕ → Option (List ℕ) → Standing T → Type 0

-- What it does when no line is left.
abbrev pub Ends : Type 0 → Type 1
Ends T = Standing T → Standing T → Type 0

-- What it does where it fails at a line: how all stands before and after.
abbrev pub Fails : Type 0 → Type 1
Fails T = Standing T → ℕ → Option (List ℕ) → Standing T → Type 0

-- What it does where it fails when no line is left.
abbrev pub FailsAtEnd : Type 0 → Type 1
FailsAtEnd T = Standing T → Standing T → Type 0

-- The worker rests. What stands on the page may be written.
pub record Rests {T : Type 0} (old new : Standing T) : Type 0 where
  pub worker : new.taker ≡ old.taker
  pub stays : Stays old.written old.page new.written new.page

-- All these lines are worked through, each once and in order, with the numbers after this one.
abbrev pub WorksThrough : {T : Type 0} → Does T → Standing T → ℕ → List (List ℕ) → Standing T
    → Type 0
WorksThrough does old n [] new = Rests old new
WorksThrough {T} does old n (line ∷ lines) new =
    (before after : Standing T) × Rests old before
    × does before (next_number n) (few line) after
    × WorksThrough does after (next_number n) lines new

-- All these lines are worked through, and then the worker ends.
pub record WorksToEnd {T : Type 0} (does : Does T) (ends : Ends T) (old : Standing T) (n : ℕ)
    (lines : List (List ℕ)) (new : Standing T) : Type 0 where
  pub last : Standing T
  pub works : WorksThrough does old n lines last
  pub at_last : ends last new

-- the number of the last of these lines, which come after the line of this number
abbrev pub number_after : ℕ → List (List ℕ) → ℕ
number_after n [] = n
number_after n (line ∷ lines) = number_after (next_number n) lines

-- The worker fails at the first of these lines.
pub record FailsAtFirst {T : Type 0} (fails : Fails T) (old : Standing T) (n : ℕ)
    (lines : List (List ℕ)) (new : Standing T) : Type 0 where
  pub first : List ℕ
  pub others : List (List ℕ)
  pub are_these : lines ≡ first ∷ others
  pub failed : fails old (next_number n) (few first) new

-- What goes wrong after the line of this number, before these lines: the input or the output fails,
-- which leaves the worker as it was, or the worker does, at the first of them, or at the end where
-- there is none.
abbrev pub GoesWrong : {T : Type 0} → Fails T → FailsAtEnd T → Standing T → ℕ → List (List ℕ)
    → Standing T → Type 0
GoesWrong fails fails_at_end old n lines new =
    (new.taker ≡ old.taker) ⊎ (FailsAtFirst fails old n lines new
    ⊎ ((lines ≡ []) × fails_at_end old new))

-- The first of these lines are worked through, and then something goes wrong.
pub record WorksInPart {T : Type 0} (does : Does T) (fails : Fails T) (fails_at_end : FailsAtEnd T)
    (old : Standing T) (n : ℕ) (lines : List (List ℕ)) (new : Standing T) : Type 0 where
  pub done : List (List ℕ)
  pub rest : List (List ℕ)
  pub are_these : lines ≡ done ++ rest
  pub last : Standing T
  pub works : WorksThrough does old n done last
  pub goes_wrong : GoesWrong fails fails_at_end last (number_after n done) rest new
