-- Scripts played on the world, as runs of the machine.
pub mod Order
pub mod Trusted
use Rattle.std.specs.Prelude.{◌≡◌, ℕ, ◌<◌, List, [], ◌∷◌, ◌++◌, length, map, reverse, Option, Some, None}
use Rattle.std.specs.Io.KnownBytes.{Appends, Consumes, IsAtEnd}
use Rattle.sms_field.specs.Address.Value.{AddressValue}
use Rattle.sms_script.specs.Lines.{lines}
use Rattle.sms_script.specs.Play.Runs.{store_at}
use Rattle.sms_script.specs.Script.{ScriptValue, script_of}
use Rattle.sms_script.specs.Script.Settings.{SettingsValue}
use Rattle.sms_script.specs.Transcript.{Happened, transcript}
use Rattle.sms_script.specs.Transcript.Lines.{PacketValue}
use Rattle.sms_script.specs.declared.meaning.event.Event as script
use Rattle.sms_script.specs.declared.meaning.event.Event.TheVariants as given
use Rattle.sms_script.specs.declared.script.limits.Limits.{Limits}
use Rattle.sms_world.specs.Machine.{Machine, start}
use Rattle.sms_party.specs.Sent.{Sent}
use Rattle.sms_world.specs.Headline.OfRun.{RunPromises}
use Rattle.sms_world.specs.Machine.Event.{Event}
use Rattle.sms_world.specs.Machine.Step.{Step, Run}
use Rattle.sms_world.specs.Network.{entry_of, ends_of}
use Rattle.sms_world.specs.Orderly.{OrderlyRun}
use Rattle.sms_world.specs.Texts.Stands.{stands}
use Rattle.sms_world.specs.Told.{Told}
use Rattle.sms_world.specs.Words.{told_text}
use Rattle.sms_world.specs.World.Standing.{ArePacketsOf, StandsFor}
use Rattle.sms_world.specs.World.Steps.{event_of, told_past}
use Rattle.sms_world.specs.World.Value.{WorldValue}

-- where a script sets the clock, a tick comes before its events
abbrev pub clock_events : Option ℕ → List script.Event
clock_events None = []
clock_events (Some seconds) = given.Tick seconds ∷ []

-- The machine goes through these events, each with its answer; and what is told of each event is
-- its answer in words, and the packets that were put out at it, each carrying its message.
abbrev pub RunsAsTold : Machine → List script.Event → List Told → List Happened → Machine → Type 0
RunsAsTold m [] [] [] last = m ≡ last
RunsAsTold m (e ∷ events) (t ∷ told) (h ∷ happened) last =
    (put : List Sent) × (next : Machine) × Step m (event_of e) t put next
    × (h.words ≡ told_text t) × ArePacketsOf h.put put
    × RunsAsTold next events told happened last
RunsAsTold m _ _ _ last = ⊥

-- all packets that were told, in order
abbrev pub all_put : List Happened → List PacketValue
all_put [] = []
all_put (h ∷ happened) = h.put ++ all_put happened

-- all events of a script with their answers, that of its clock too, the newest first
abbrev pub script_past : SettingsValue → List script.Event → List Told → List Told
    → List (Event × Told)
script_past s events at_clock told =
    told_past (clock_events s.clock ++ events) (at_clock ++ told)

-- The machine runs from its first state through the events of a script, a tick first where the
-- script sets the clock, to a state that the world stands for. What is told of each event is its
-- answer in words and the packets that it put out, and these are all that were put out. The
-- headline is of this run: where it is orderly, the store that is told of each phone is, in order
-- of completion, just the texts that have finished there, each with the address of the phone that
-- it was typed at and the characters that were typed.
pub record HappensAsRun (s : SettingsValue) (events : List script.Event) (happened : List Happened)
    (world : WorldValue) : Type 0 where
  pub at_clock : List Told
  pub one : length at_clock ≡ length (clock_events s.clock)
  pub begun : Machine
  pub clocked :
      Run (start s.limits s.known.addresses) (told_past (clock_events s.clock) at_clock) begun
  pub told : List Told
  pub last : Machine
  pub runs_as_told : RunsAsTold begun events told happened last
  pub all_told : all_put happened ≡ world.packets
  pub runs : Run (start s.limits s.known.addresses) (script_past s events at_clock told) last
  pub world_stands : StandsFor world last
  pub promises :
      RunPromises s.limits s.known.addresses (script_past s events at_clock told) last world
  pub stores :
      OrderlyRun (start s.limits s.known.addresses) (script_past s events at_clock told) last
      → (phone : ℕ) → phone < length world.parties.phones
      → store_at (ends_of world) phone ≡ map entry_of (reverse (stands last phone))

-- So the events of a script happened, and this is its transcript.
abbrev pub IsTranscript : ScriptValue → List ℕ → Type 0
IsTranscript script text =
    (happened : List Happened) × (world : WorldValue)
    × HappensAsRun script.settings script.events happened world
    × (text
    ≡ transcript script.settings.is_brief script.settings.known.names happened (ends_of world))

-- A source that had old left was read to its end, its script is without fault, and what the sink
-- took is the script's transcript.
abbrev pub Transcribes : (old new before now : Option (List ℕ)) → Type 0
Transcribes old new before now =
    (read text : List ℕ) × Consumes old new read × IsAtEnd new
    × ((script_of (lines read)).fault ≡ None) × IsTranscript (script_of (lines read)) text
    × Appends before now text

-- After every orderly run the store that a world tells of each phone is, in order of completion,
-- just the texts that have finished there, each with the address of the phone that it was typed at
-- and the characters that were typed.
abbrev pub ToldStoresStand : Type 0
ToldStoresStand =
    (limits : Limits) (phones : List AddressValue) (past : List (Event × Told)) (m : Machine)
    → (world : WorldValue) → OrderlyRun (start limits phones) past m → StandsFor world m
    → (phone : ℕ) → phone < length world.parties.phones
    → store_at (ends_of world) phone ≡ map entry_of (reverse (stands m phone))
