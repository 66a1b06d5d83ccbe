-- A reader may pass this by: contracts of private functions, and proofs, alone cite it.
--
-- The octets and the septets of a word, the lowest first.
use Rattle.std.specs.Prelude.{ℕ, zero, suc, ◌/◌, ◌%◌, List, [], ◌∷◌}

-- the lowest octets of a word, the lowest first; the first argument says how many
unfoldable pub low_octets : ℕ → ℕ → List ℕ
low_octets zero n = []
low_octets (suc k) n = n % 256 ∷ low_octets k (n / 256)

-- the lowest septets of a word, the lowest first; the first argument says how many
unfoldable pub low_septets : ℕ → ℕ → List ℕ
low_septets zero n = []
low_septets (suc k) n = n % 128 ∷ low_septets k (n / 128)
