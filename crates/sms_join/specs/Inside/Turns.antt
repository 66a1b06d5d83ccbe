-- A reader may pass this by: contracts of private functions, and proofs, alone cite it.
--
-- In which order open sets were opened: by the numbers of their openings.
use Rattle.std.specs.Prelude.{◌≡◌, ℕ, ◌<◌, Bool, false, ◌||◌, if◌then◌else◌, ◌==◌, nat_lt, List, [], ◌∷◌}
use Rattle.sms_join.specs.OpenSets.{SetValue}

-- Each was opened before the opening of this number.
abbrev pub AreBefore : ℕ → List SetValue → Type 0
AreBefore t [] = Unit {0}
AreBefore t (s ∷ ss) = (s.turn < t) × AreBefore t ss

abbrev pub has_turn : List SetValue → ℕ → Bool
has_turn [] t = false
has_turn (s ∷ ss) t = s.turn == t || has_turn ss t

-- No two were opened at once.
abbrev pub AreApart : List SetValue → Type 0
AreApart [] = Unit {0}
AreApart (s ∷ ss) = (has_turn ss s.turn ≡ false) × AreApart ss

pub record HaveTurns (t : ℕ) (ss : List SetValue) : Type 0 where
  pub before : AreBefore t ss
  pub apart : AreApart ss

-- the set ahead of the first that was opened after it
abbrev pub put_in : SetValue → List SetValue → List SetValue
put_in s [] = s ∷ []
put_in s (t ∷ ts) = if nat_lt s.turn t.turn then s ∷ t ∷ ts else t ∷ put_in s ts

-- the sets in the order in which they were opened
abbrev pub arranged : List SetValue → List SetValue
arranged [] = []
arranged (s ∷ ss) = put_in s (arranged ss)
