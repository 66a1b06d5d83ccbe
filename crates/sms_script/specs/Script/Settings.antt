-- What the lines of a script have set.
use Rattle.std.specs.Prelude.{ℕ, Bool, Option}
use Rattle.sms_script.specs.Meaning.Known.{KnownValue}
use Rattle.sms_script.specs.declared.script.limits.Limits.{Limits}

-- the phones and whether an event came, the limits, where the clock starts, whether packets are
-- printed as their length, and how many lines there were
pub record SettingsValue : Type 0 where
  pub known : KnownValue
  pub limits : Limits
  pub clock : Option ℕ
  pub is_brief : Bool
  pub lines : ℕ
