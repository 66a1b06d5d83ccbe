-- What playing lines did, and what there is to tell of it.
use Rattle.std.specs.Prelude.{◌≡◌, ℕ, List, [], Option, Some, None}
use Rattle.sms_script.specs.Play.Network.{Conduct}
use Rattle.sms_script.specs.Play.Runs.{Ran, Starts}
use Rattle.sms_script.specs.Script.{ScriptValue, script_of}
use Rattle.sms_script.specs.Script.Settings.{SettingsValue}
use Rattle.sms_script.specs.Transcript.{Happened, Ended, event_lines, final_lines}

-- the lines of a script's events
abbrev pub told : SettingsValue → List Happened → List ℕ
told s happened = event_lines s.is_brief s.known.names 1 1 happened

-- the lines of the phones in the end
abbrev pub told_in_the_end : SettingsValue → List Ended → List ℕ
told_in_the_end s ends = final_lines s.known.names ends

-- the events of a script happened so, where there is a network; else there was no event
abbrev pub Played : {N : Type 0} → Conduct N → ScriptValue → List Happened → Option N → Type 0
Played c script happened None = (script.events ≡ []) × (happened ≡ [])
Played {N} c script happened (Some n) =
    (start : N) × Starts c script.settings start × (c.put_out start ≡ [])
    × Ran c start script.events happened n

-- Lines were played: none is at fault, and their events happened so.
pub record LinesPlayed {N : Type 0} (c : Conduct N) (ls : List (List ℕ)) : Type 0 where
  pub faultless : (script_of ls).fault ≡ None
  pub happened : List Happened
  pub network : Option N
  pub played : Played c (script_of ls) happened network

-- the lines of the events of lines that were played
abbrev pub told_of : {N : Type 0} {c : Conduct N} (ls : List (List ℕ)) → LinesPlayed c ls → List ℕ
told_of ls p = told (script_of ls).settings p.happened
