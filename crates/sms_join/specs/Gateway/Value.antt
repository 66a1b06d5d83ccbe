-- What a joiner for many recipients is: its limits, and what it holds.
use Rattle.std.specs.Prelude.{ℕ, List, Option, Some}
use Rattle.sms_join.specs.declared.gateway_limits.Alone.{Alone}
use Rattle.sms_join.specs.Joiner.{Joiner}
use Rattle.sms_join.specs.OpenSets.{SetValue}

pub record LimitsValue : Type 0 where
  -- how many sets may be open
  pub open_max : ℕ
  -- how many keys are remembered
  pub remembered : ℕ
  -- what becomes of messages in one piece
  pub alone : Alone
  -- for how many seconds a set may be open
  pub open_for : ℕ
  -- for how many seconds a key is remembered; where there are none, as long as it is among the last
  pub remember_for : Option ℕ

abbrev pub with_alone : LimitsValue → Alone → LimitsValue
with_alone limits alone = record limits { alone = alone }

abbrev pub with_open_for : LimitsValue → ℕ → LimitsValue
with_open_for limits seconds = record limits { open_for = seconds }

abbrev pub with_remember_for : LimitsValue → ℕ → LimitsValue
with_remember_for limits seconds = record limits { remember_for = Some seconds }

pub record GatewayValue : Type 0 where
  pub limits : LimitsValue
  -- the pieces of the open sets, one set after another
  pub holds : Joiner
  -- the same sets, in the order in which they were opened
  pub told : List SetValue
  -- the moments at which the remembered keys finished, in their order
  pub finishings : List ℕ
