-- A reader may pass this by: contracts of private functions, and proofs, alone cite it.
--
-- What stands before the remembered keys is read from left to right.
use Rattle.std.specs.Prelude.{ℕ, List, Result, Ok, nat_lt, if◌then◌else◌}
use Rattle.std.specs.Int.{w64}
use Rattle.sms_saved.specs.declared.fault.Halt.{Halt}
use Rattle.sms_saved.specs.declared.fault.StateFault.TheVariants.{TooMany}
use Rattle.sms_saved.specs.declared.state.Limits.{Limits}
use Rattle.sms_saved.specs.Parts.{FrontValue}
use Rattle.sms_saved.specs.Reading.Fields.{◌>>=◌, stops, number_at}
use Rattle.sms_saved.specs.Reading.Sets.{set_at}
use Rattle.sms_saved.specs.Reading.Lists.{few_judged_at, judge_set}
use Rattle.sms_saved.specs.Reading.Whole.{head_at, limits_at}

unfoldable pub front_at : Limits → List ℕ → Result FrontValue Halt
front_at own bytes = do
  rest ← head_at bytes
  limits ← limits_at own rest
  taken ← number_at w64 limits.1
  next ← number_at w64 taken.1
  sets ← few_judged_at own.sets (judge_set next.0) set_at next.1
  count ← number_at w64 sets.1
  if nat_lt own.keys count.0 then stops sets.1 TooMany else Ok (record { taken = taken.0; next = next.0; sets = sets.0; count = count.0; rest = count.1 })
