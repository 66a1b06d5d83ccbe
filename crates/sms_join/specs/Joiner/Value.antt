-- What a joiner is: its limits, and what it holds.
use Rattle.std.specs.Prelude.{◌≡◌, ℕ, List}
use Rattle.sms_join.specs.Joiner.{Joiner}
use Rattle.sms_join.specs.OpenSets.{SetValue}

pub record JoinerValue : Type 0 where
  -- how many sets may be open
  pub open_max : ℕ
  -- how many keys are remembered
  pub remembered : ℕ
  -- the pieces of the open sets, one set after another
  pub holds : Joiner
  -- the same sets, in the order in which they were opened
  pub told : List SetValue

pub record SameLimits (i j : JoinerValue) : Type 0 where
  pub open_max : i.open_max ≡ j.open_max
  pub remembered : i.remembered ≡ j.remembered
