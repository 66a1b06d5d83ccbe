-- A reader may pass this by: contracts of private functions, and proofs, alone cite it.
--
-- What a hasher gets of a key.
use Rattle.std.specs.Prelude.{ℕ, ◌-◌, List, ◌++◌, if◌then◌else◌, length, nat_le, replicate}

-- as many octets, of which those behind these are 0
abbrev pub padded : ℕ → List ℕ → List ℕ
padded count octets = octets ++ replicate (count - length octets) 0

-- its octets in whole words, three or five; those alone where there are more
abbrev pub hashed_octets : List ℕ → List ℕ
hashed_octets octets =
    if nat_le (length octets) 24 then padded 24 octets
    else (if nat_le (length octets) 40 then padded 40 octets else octets)
