-- What becomes of a joiner one after another: something is brought to it, or its sets age. Lists
-- have the newest entry first.
use Rattle.std.specs.Prelude.{ℕ, List, [], ◌∷◌}
use Rattle.sms_join.specs.Piece.{Piece}
use Rattle.sms_join.specs.Joiner.{Joiner, offered}
use Rattle.sms_join.specs.Joiner.Aging.{aged}

pub data Act (A : Type 0) : Type 0 where
  -- this is brought
  Brings : A → Act A
  -- the sets age, at this moment
  Ages : ℕ → Act A

-- What is brought.
abbrev pub brought : {A : Type 0} → List (Act A) → List A
brought [] = []
brought (Brings a ∷ acts) = a ∷ brought acts
brought (Ages now ∷ acts) = brought acts

abbrev pub acted : ℕ → ℕ → Joiner → Act Piece → Joiner
acted open_max remembered j (Brings p) = offered open_max remembered j p
acted open_max remembered j (Ages now) = aged now j

-- The joiner after pieces that were offered and agings.
abbrev pub acted_all : ℕ → ℕ → Joiner → List (Act Piece) → Joiner
acted_all open_max remembered j [] = j
acted_all open_max remembered j (act ∷ acts) =
    acted open_max remembered (acted_all open_max remembered j acts) act
