-- The limits of a world, and the two settings of its phones.
use Rattle.std.specs.Prelude.{ℕ, ◌≤◌, false}
use Rattle.sms_script.specs.Meaning.Limits.{greatest}
use Rattle.sms_script.specs.declared.meaning.statement.Limit.{Limit}
use Rattle.sms_script.specs.declared.meaning.statement.Limit.TheVariants.{Held, Open, Remembered, Store}
use Rattle.sms_script.specs.declared.script.limits.Limits.{Limits}

-- where a script sets none
abbrev pub default_limits : Limits
default_limits = record {
  held = greatest Held;
  open_max = greatest Open;
  remembered = greatest Remembered;
  store = greatest Store;
  wide = false;
  reject = false;
}

abbrev pub with_limit : Limits → Limit → ℕ → Limits
with_limit l Held n = record l { held = n }
with_limit l Open n = record l { open_max = n }
with_limit l Remembered n = record l { remembered = n }
with_limit l Store n = record l { store = n }

-- each limit is from 1 to the greatest
abbrev pub IsIn : Limit → ℕ → Type 0
IsIn which n = (1 ≤ n) × (n ≤ greatest which)

abbrev pub AreLimits : Limits → Type 0
AreLimits l =
    IsIn Held l.held × IsIn Open l.open_max × IsIn Remembered l.remembered × IsIn Store l.store
