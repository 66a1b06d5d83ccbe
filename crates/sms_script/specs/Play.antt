-- What playing a script reads and writes.
pub mod Network
pub mod Runs
pub mod Played
pub mod Puts
pub mod Endings
use Rattle.std.specs.Prelude.{◌≡◌, ℕ, ◌⊎◌, List, Option, Some, Result, Ok, Err}
use Rattle.sms_script.specs.Lines.{lines}
use Rattle.sms_script.specs.Play.Endings.{StopsInLine, StopsInEvent, StopsUnbegun, PlaysToEnd}
use Rattle.sms_script.specs.Play.Network.{Conduct}
use Rattle.sms_script.specs.Script.{script_of}
use Rattle.sms_script.specs.Script.Settings.{SettingsValue}
use Rattle.sms_script.specs.declared.fault.PlayFault.{PlayFault}
use Rattle.sms_script.specs.declared.fault.PlayFault.TheVariants as faults

-- Playing ended before the source told its end: within a line, or where a write failed within an
-- event.
abbrev pub Stops : {N : Type 0} → Conduct N → (old new before now : Option (List ℕ)) → PlayFault
    → Type 0
Stops c old new before now faults.Write = StopsInEvent c old new before now
Stops c old new before now fault = StopsInLine c old new before now fault

-- What was read, and what was written for it: the source had old left and has new left, the sink
-- had taken before and has taken now.
abbrev pub Plays : {N : Type 0} → Conduct N
    → (old new before now : Option (List ℕ)) → Result (Unit {0}) PlayFault → Type 0
Plays c old new before now (Ok done) = PlaysToEnd c old new before now (Ok done)
Plays c old new before now (Err faults.Write) =
    StopsInEvent c old new before now ⊎ PlaysToEnd c old new before now (Err faults.Write)
Plays c old new before now (Err faults.Memory) =
    StopsInLine c old new before now faults.Memory ⊎ StopsUnbegun old new before now
    ⊎ PlaysToEnd c old new before now (Err faults.Memory)
Plays c old new before now (Err fault) = StopsInLine c old new before now fault

-- Where all was played, this is what the lines have set, and this is the network in the end, the
-- one that was played on.
abbrev pub Leaves : {N : Type 0} → Conduct N
    → (old new before now : Option (List ℕ)) → SettingsValue → Option N
    → Result (Unit {0}) PlayFault → Type 0
Leaves c old new before now s network (Ok done) =
    (p : PlaysToEnd c old new before now (Ok done))
    × (s ≡ (script_of (lines p.read)).settings) × (network ≡ Some p.network)
Leaves c old new before now s network (Err fault) = Unit {0}
