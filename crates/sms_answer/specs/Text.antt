-- Texts in one line, and whole lines.
use Rattle.std.specs.Prelude.{◌≡◌, ℕ, ◌<◌, ◌==◌, Bool, true, not, List, [], ◌∷◌, ◌++◌, length, flat_map, ⊤}
use Rattle.std.specs.List.{list_all}

-- an octet that ends no line
abbrev pub is_in_line : ℕ → Bool
is_in_line octet = not (octet == 10)

-- no octet of the text ends a line
abbrev pub IsInLine : List ℕ → Type 0
IsInLine text = list_all is_in_line text ≡ true

-- a line, with a line feed behind it
abbrev pub ended : List ℕ → List ℕ
ended line = line ++ 10 ∷ []

-- each is a line, and none is empty
abbrev pub AreLines : List (List ℕ) → Type 0
AreLines [] = ⊤
AreLines (line ∷ lines) = (0 < length line) × IsInLine line × AreLines lines

-- the octets are some lines, each with a line feed behind it, and none of them empty
pub record AreWholeLines (octets : List ℕ) : Type 0 where
  pub lines : List (List ℕ)
  pub are_lines : AreLines lines
  pub each_ended : octets ≡ flat_map ended lines
