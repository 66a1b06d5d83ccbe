-- The worlds that a script is played on, and what is told of an event.
use Rattle.std.specs.Prelude.{◌≡◌, ℕ, Bool, true, false, List, [], Option, length, None}
use Rattle.std.specs.Io.KnownBytes.{Appends}
use Rattle.sms_script.specs.Lines.{lines}
use Rattle.sms_field.specs.Address.Value.{AddressValue}
use Rattle.sms_page.specs.Page.{PageValue}
use Rattle.sms_script.specs.declared.meaning.event.Event as given
use Rattle.sms_script.specs.declared.script.limits.Limits.{Limits}
use Rattle.sms_told.specs.declared.form.Form.TheVariants.{Json}
use Rattle.sms_answer.specs.Answer.{Ends}
use Rattle.sms_world.specs.Machine.{start}
use Rattle.sms_world.specs.Told.{Told}
use Rattle.sms_world.specs.Trusted.{BeginsTrusted, GoesOnTrusted}
use Rattle.sms_world.specs.Watched.{BeginsWatched, GoesOnWatched}
use Rattle.sms_world.specs.World.Standing.{StandsFor}
use Rattle.sms_world.specs.World.Steps.{event_of, Steps}
use Rattle.sms_world.specs.World.Value.{WorldValue}
use Rattle.sms_run.specs.Machines.{Conduct}
use Rattle.sms_run.specs.Runs.{Finishes, RunsToEnd, Tells}
use Rattle.sms_command.specs.declared.run.Running.{Running}
use Rattle.sms_command.specs.declared.run.Running.TheVariants.{Plain, Watched, Trusted}
use Rattle.sms_command.specs.declared.run.Watching.{Watching}
use Rattle.sms_command.specs.declared.run.Watching.TheVariants.{Nothing, Order, Accepted}

-- the world, whatever is told of its run
abbrev pub world_of : Running → WorldValue
world_of (Plain world) = world
world_of (Watched watched) = watched.world
world_of (Trusted trusted) = trusted.watched.world

-- whether it is told if its run is orderly
abbrev pub is_watched : Running → Bool
is_watched (Plain world) = false
is_watched _ = true

-- whether it is told if `accepted` means accepted
abbrev pub is_trusted : Running → Bool
is_trusted (Trusted trusted) = true
is_trusted _ = false

-- It tells of its run what is asked for, and its world begins with these limits and phones.
abbrev pub Begins : Watching → Limits → List AddressValue → Running → Type 0
Begins Nothing limits phones (Plain world) = StandsFor world (start limits phones)
Begins Order limits phones (Watched watched) = BeginsWatched limits phones watched
Begins Accepted limits phones (Trusted trusted) = BeginsTrusted limits phones trusted
Begins _ limits phones _ = ⊥

-- It goes on to tell the same of its run, to which this event with its answer has come.
abbrev pub GoesOn : Running → given.Event → Told → Running → Type 0
GoesOn (Plain old) event told (Plain new) = Unit {0}
GoesOn (Watched old) event told (Watched new) = GoesOnWatched (event_of event) old told new
GoesOn (Trusted old) event told (Trusted new) = GoesOnTrusted (event_of event) old told new
GoesOn _ event told _ = ⊥

-- An event is a step of its world.
abbrev pub StepsOn : Running → given.Event → Told → Running → Type 0
StepsOn old event told new =
    Steps (event_of event) (world_of old) told (world_of new) × GoesOn old event told new

abbrev pub conduct : Conduct Running Watching Told
conduct =
    record { Begins = Begins; Steps = StepsOn; put_out = λ r. length (world_of r).packets }

-- an object stands on the page behind what stood there before
abbrev pub AddsObject : PageValue → PageValue → Type 0
AddsObject page page_then =
    Ends (record { front = page; form = Json; number = None }) page_then

-- The lines of a script are played on such a world, each once and in order, and then it is told how
-- all stands. All that is told is written.
pub record RunsToOutput {T : Type 0} (tells : Tells Running Told T) (finishes : Finishes Running T)
    (watching : Watching) (octets : List ℕ) (first : T) (written : Option (List ℕ)) (last : T)
    (written_then : Option (List ℕ)) : Type 0 where
  pub between : Option (List ℕ)
  pub page : PageValue
  pub runs : RunsToEnd conduct tells finishes watching first written
      (record { octets = []; is_cut = false }) (lines octets) last between page
  pub whole : page.is_cut ≡ false
  pub rest : Appends between written_then page.octets
