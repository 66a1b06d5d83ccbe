-- The days of the years 2000 to 2099 in the Gregorian calendar (3GPP TS 23.040, 9.2.3.11; the year
-- 00 is 2000).
use Rattle.std.specs.Prelude.{ℕ, ◌-◌, pos}
use Rattle.std.specs.Int.{IsInRange}
use Rattle.jiff_core.specs.Calendar.{days_in_month, day_count}

-- a day of the years 2000 to 2099
abbrev pub IsDay : ℕ → ℕ → ℕ → Type 0
IsDay year month day =
    IsInRange 2000 2099 year × IsInRange 1 12 month
    × IsInRange 1 (days_in_month (pos year) month) day

-- the days from 2000-01-01 to the date
abbrev pub days_before : ℕ → ℕ → ℕ → ℕ
days_before year month day = day_count (pos year) month day - day_count (pos 2000) 1 1
