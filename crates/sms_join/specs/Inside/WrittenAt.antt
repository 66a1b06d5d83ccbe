-- A reader may pass this by: contracts of private functions, and proofs, alone cite it.
use Rattle.std.specs.Prelude.{ℕ, List, [], ◌∷◌, slice_range}

-- the parts of octets, each from the end of the one before it to its own
abbrev pub octets_at : List ℕ → ℕ → List ℕ → List (List ℕ)
octets_at octets start [] = []
octets_at octets start (end ∷ ends) = slice_range octets start end ∷ octets_at octets end ends
