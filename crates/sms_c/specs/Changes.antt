-- How often a joiner of C has changed, and what number comes after another.
use Rattle.std.specs.Prelude.{ℕ, ◌+◌, ◌-◌, ◌^◌, min}

-- Of 64 bits the greatest stays: there is no number after it. Nothing counts as far: that takes
-- centuries at a call a nanosecond.
abbrev pub next_number : ℕ → ℕ
next_number n = min (n + 1) (2 ^ 64 - 1)
