-- Whether more is to be put out.
use Rattle.std.specs.Prelude.{Bool, true, false, List, [], ◌∷◌}

abbrev pub is_more : {X : Type 0} → List X → Bool
is_more [] = false
is_more (a ∷ others) = true
