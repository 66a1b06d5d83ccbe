-- Scripts played on a watched world: what is told of the order of their runs.
use Rattle.std.specs.Prelude.{◌≡◌, ℕ, ◌<◌, ◌⊎◌, List, [], ◌++◌, length, map, reverse, Option, None, Result, Ok, Err}
use Rattle.std.specs.Io.KnownBytes.{Appends, Consumes, IsAtEnd}
use Rattle.sms_script.specs.Lines.{lines}
use Rattle.sms_script.specs.Play.{Plays}
use Rattle.sms_script.specs.Play.Puts.{IsPutOf}
use Rattle.sms_script.specs.Play.Runs.{store_at}
use Rattle.sms_script.specs.Script.{ScriptValue, script_of}
use Rattle.sms_script.specs.Script.Settings.{SettingsValue}
use Rattle.sms_script.specs.Transcript.{Happened, transcript}
use Rattle.sms_script.specs.declared.fault.PlayFault.{PlayFault}
use Rattle.sms_script.specs.declared.fault.PlayFault.TheVariants as faults
use Rattle.sms_world.specs.declared.order.Breach.{Breach}
use Rattle.sms_world.specs.Breaches.{IsTold}
use Rattle.sms_world.specs.Headline.OfRun.{Headline}
use Rattle.sms_world.specs.Machine.{start}
use Rattle.sms_world.specs.Network.{conduct, entry_of, ends_of}
use Rattle.sms_world.specs.Playing.{HappensAsRun, script_past}
use Rattle.sms_world.specs.Texts.Stands.{stands}
use Rattle.sms_world.specs.Words.Order.{order_line}
use Rattle.sms_world.specs.World.Value.{WorldValue}

-- whether all was played
abbrev pub as_played : {A E : Type 0} → Result A E → Result (Unit {0}) E
as_played (Ok answer) = Ok tt
as_played (Err fault) = Err fault

-- So the events of a script happened, this is its transcript, and this is told of the order of this
-- very run. Where it is none, the run is orderly; so the headline holds of it, and the store that is
-- told of each phone is, in order of completion, just the texts that have finished there, as they
-- were typed. Else the run is not orderly, and this is the first event that comes out of order.
pub record IsJudged (script : ScriptValue) (text : List ℕ) (breach : Option Breach) : Type 0 where
  pub happened : List Happened
  pub world : WorldValue
  pub run : HappensAsRun script.settings script.events happened world
  pub text_is :
      text
      ≡ transcript script.settings.is_brief script.settings.known.names happened (ends_of world)
  pub told :
      IsTold (start script.settings.limits script.settings.known.addresses)
      (script_past script.settings script.events run.at_clock run.told) run.last breach
  pub headline :
      breach ≡ None
      → Headline script.settings.limits script.settings.known.addresses
      (script_past script.settings script.events run.at_clock run.told) run.last world
  pub stores :
      breach ≡ None
      → (phone : ℕ) → phone < length world.parties.phones
      → store_at (ends_of world) phone ≡ map entry_of (reverse (stands run.last phone))

-- A source that had old left was read to its end, its script is without fault and has set this, what
-- the sink took is the script's transcript, and this is told of its run.
abbrev pub JudgesBy : {A : Type 0} → (ScriptValue → List ℕ → A → Type 0)
    → (old new before now : Option (List ℕ)) → SettingsValue → A → Type 0
JudgesBy IsSo old new before now s answer =
    (read text : List ℕ) × Consumes old new read × IsAtEnd new
    × ((script_of (lines read)).fault ≡ None) × (s ≡ (script_of (lines read)).settings)
    × IsSo (script_of (lines read)) text answer × Appends before now text

abbrev pub Judges : (old new before now : Option (List ℕ)) → SettingsValue → Option Breach → Type 0
Judges = JudgesBy IsJudged

-- What of a text was put: all of it; where a write failed, some first octets; where memory ran out,
-- nothing.
abbrev pub IsPutAtOnce : List ℕ → List ℕ → Result (Unit {0}) PlayFault → Type 0
IsPutAtOnce text front (Err faults.Memory) = front ≡ []
IsPutAtOnce text front result = IsPutOf text front result

-- So it is; and after the transcript the words that tell it were put, of which this result says how
-- much.
pub record TellsBy {A : Type 0} (IsSo : ScriptValue → List ℕ → A → Type 0)
    (words : SettingsValue → A → List ℕ) (old new before now : Option (List ℕ))
    (result : Result (Unit {0}) PlayFault) : Type 0 where
  pub read : List ℕ
  pub taken : Consumes old new read
  pub ended : IsAtEnd new
  pub faultless : (script_of (lines read)).fault ≡ None
  pub text : List ℕ
  pub answer : A
  pub judged : IsSo (script_of (lines read)) text answer
  pub front : List ℕ
  pub words_are : IsPutAtOnce (words (script_of (lines read)).settings answer) front result
  pub wrote : Appends before now (text ++ front)

-- All was played, and that was told of its run; or else playing ended as it does on a world that is
-- not watched, or within the words that tell it.
abbrev pub PlaysAndTells : {A : Type 0} → (ScriptValue → List ℕ → A → Type 0)
    → (SettingsValue → A → List ℕ) → (old new before now : Option (List ℕ))
    → Result (Unit {0}) PlayFault → Type 0
PlaysAndTells IsSo words old new before now (Ok done) =
    TellsBy IsSo words old new before now (Ok done)
PlaysAndTells IsSo words old new before now (Err fault) =
    Plays conduct old new before now (Err fault)
    ⊎ TellsBy IsSo words old new before now (Err fault)

-- so of the order of its run, in the line that tells it
abbrev pub PlaysWithOrder : (old new before now : Option (List ℕ)) → Result (Unit {0}) PlayFault
    → Type 0
PlaysWithOrder = PlaysAndTells IsJudged order_line
