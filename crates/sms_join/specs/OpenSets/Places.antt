-- An open set by its places, one for each of its pieces in order of sequence: at each the units of
-- the piece, where it has come.
use Rattle.std.specs.Prelude.{ℕ, suc, List, [], ◌∷◌, Option, Some, None}
use Rattle.sms_join.specs.declared.key.Key.{Key}
use Rattle.sms_join.specs.declared.units.Units.{Units}
use Rattle.sms_join.specs.OpenSets.{SetValue}

-- the sequences of the pieces that have come, where the first place is that of this sequence
abbrev pub filled_from : ℕ → List (Option Units) → List ℕ
filled_from n [] = []
filled_from n (None ∷ ps) = filled_from (suc n) ps
filled_from n (Some u ∷ ps) = n ∷ filled_from (suc n) ps

-- their units
abbrev pub filled : List (Option Units) → List Units
filled [] = []
filled (None ∷ ps) = filled ps
filled (Some u ∷ ps) = u ∷ filled ps

-- the set of this key, whose first piece came at this moment, by the opening of this number
abbrev pub set_by : Key → ℕ → ℕ → List (Option Units) → SetValue
set_by key opened turn places =
    record {
      key = key;
      opened = opened;
      turn = turn;
      sequences = filled_from 1 places;
      units = filled places;
    }
