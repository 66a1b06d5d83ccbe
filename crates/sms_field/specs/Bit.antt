-- The bits of an octet, numbered from 0, the lowest.
use Rattle.std.specs.Prelude.{ℕ, ◌/◌, ◌%◌, ◌^◌, ◌==◌, Bool, if◌then◌else◌}

abbrev pub bit : ℕ → ℕ → Bool
bit number octet = octet / 2 ^ number % 2 == 1

-- what a bit adds to its octet
abbrev pub weight : ℕ → Bool → ℕ
weight number set = if set then 2 ^ number else 0
