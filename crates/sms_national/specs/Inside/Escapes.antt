-- Septets in which no escape stands behind an escape.
use Rattle.std.specs.Prelude.{ℕ, Bool, true, not, List, [], ◌∷◌, ◌==◌, ◌&&◌}
use Rattle.sms_text.specs.Tables.{escape}

abbrev pub stand_apart : List ℕ → Bool
stand_apart [] = true
stand_apart (code ∷ []) = true
stand_apart (code ∷ next ∷ others) =
    not ((code == escape) && (next == escape)) && stand_apart (next ∷ others)
