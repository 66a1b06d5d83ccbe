-- Texts in a row.
use Rattle.std.specs.Prelude.{ℕ, List, ◌++◌}

-- one text after another; it groups to the right
infixr 20 ◌⊕◌
abbrev pub ◌⊕◌ : List ℕ → List ℕ → List ℕ
a ⊕ b = a ++ b
