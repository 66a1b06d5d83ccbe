-- The lines of octets, as they are handed on: those of std's `str::lines`, each with its number.
use Rattle.std.specs.Prelude.{ℕ, suc, ◌^◌, ◌-◌, if◌then◌else◌, nat_le, min, List, length, Option, None, Some}
use Rattle.sms_script.specs.Lines.{line_limit}

-- the number of the line after this one; the greatest number stays
abbrev pub next_number : ℕ → ℕ
next_number n = min (suc n) (2 ^ 64 - 1)

-- the octets of a line, unless they are too many
abbrev pub few : List ℕ → Option (List ℕ)
few line = if nat_le (length line) line_limit then Some line else None
