-- Scripts played on a world that tells whether `accepted` means accepted: what is told of their runs.
use Rattle.std.specs.Prelude.{◌≡◌, ℕ, Bool, List, Option, None, Result}
use Rattle.sms_script.specs.Script.{ScriptValue}
use Rattle.sms_script.specs.Script.Settings.{SettingsValue}
use Rattle.sms_script.specs.declared.fault.PlayFault.{PlayFault}
use Rattle.sms_world.specs.declared.playing.trusted.Verdicts.{Verdicts}
use Rattle.sms_world.specs.Doubts.{IsMeant}
use Rattle.sms_world.specs.Machine.{start}
use Rattle.sms_world.specs.Playing.{script_past}
use Rattle.sms_world.specs.Playing.Order.{IsJudged, JudgesBy, PlaysAndTells}
use Rattle.sms_world.specs.Words.Doubts.{verdict_lines}
use Rattle.sms_world.specs.World.Claims.{ShownWereAccepted}

-- So the events of a script happened, this is its transcript, and this is told of the order of this
-- very run, and of what accepted means in it. Where of that none is told, each text that is shown as
-- accepted was: the centre has accepted every segment of it. Else this is the first event that
-- breaks a condition under which it is so.
pub record AreVerdicts (script : ScriptValue) (text : List ℕ) (v : Verdicts) : Type 0 where
  pub order : IsJudged script text v.breach
  pub told :
      IsMeant (start script.settings.limits script.settings.known.addresses)
      (script_past script.settings script.events order.run.at_clock order.run.told)
      order.run.last v.doubt
  pub accepted :
      v.doubt ≡ None → (phone : ℕ) → ShownWereAccepted order.world order.run.last phone

abbrev pub JudgesAccepted : (old new before now : Option (List ℕ)) → SettingsValue → Verdicts
    → Type 0
JudgesAccepted = JudgesBy AreVerdicts

-- All was played, and that was told of its run, the order where it was asked for; or else playing
-- ended as it does on a world that is not watched, or within the lines that tell it.
abbrev pub PlaysWithAccepted : Bool → (old new before now : Option (List ℕ))
    → Result (Unit {0}) PlayFault → Type 0
PlaysWithAccepted tells_order = PlaysAndTells AreVerdicts (verdict_lines tells_order)
