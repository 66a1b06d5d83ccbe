-- The lines that have no unit.
use Rattle.std.specs.Prelude.{ℕ, Bool, true, nat_eq, ◌||◌, List, [], ◌∷◌, codes}
use Rattle.std.specs.List.{starts_with}
use Rattle.std.specs.Str.{bytes_eq}

-- What a modem says around the units that it lists.
abbrev pub is_chatter : List ℕ → Bool
is_chatter line =
    bytes_eq line (codes "OK") || (bytes_eq line (codes "ERROR")
    || (starts_with nat_eq line (codes "+CMGL:") || (starts_with nat_eq line (codes "+CMGR:")
    || (starts_with nat_eq line (codes "+CMT:") || starts_with nat_eq line (codes "AT")))))

-- A line without the blanks around it has no unit.
abbrev pub is_nothing : List ℕ → Bool
is_nothing [] = true
is_nothing (octet ∷ octets) = is_chatter (octet ∷ octets)
