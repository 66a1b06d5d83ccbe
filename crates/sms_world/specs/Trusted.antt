-- A world of which it is told whether `accepted` means accepted, as contracts see it: what has led
-- to it, and what it tells.
pub mod Network
use Rattle.std.specs.Prelude.{◌≡◌, ℕ, List, [], ◌∷◌, Option, Some, None}
use Rattle.sms_field.specs.Address.Value.{AddressValue}
use Rattle.sms_script.specs.declared.script.limits.Limits.{Limits}
use Rattle.sms_world.specs.declared.doubt.Doubt.{Doubt}
use Rattle.sms_world.specs.Doubts.{IsMeant}
use Rattle.sms_world.specs.Machine.{Machine, start}
use Rattle.sms_world.specs.Machine.Event.{Event}
use Rattle.sms_world.specs.Machine.Step.{Run}
use Rattle.sms_world.specs.Told.{Told}
use Rattle.sms_world.specs.TraceTables.{TraceTables, traces_of}
use Rattle.sms_world.specs.Traces.{Traces, AreTracesOf}
use Rattle.sms_world.specs.Watched.{WatchedValue, LedTo}
use Rattle.sms_world.specs.World.Claims.{ShownWereAccepted}

pub record TrustedValue : Type 0 where
  -- the world, and what is told of its order
  pub watched : WatchedValue
  -- what is noted of the events besides
  pub notes : TraceTables
  -- the first after which `accepted` need not mean accepted
  pub doubt : Option Doubt

-- as long as the run is honest, the notes are right of its last state
abbrev pub TracesFollow : Option Doubt → Traces → Machine → Type 0
TracesFollow None t m = AreTracesOf t m
TracesFollow (Some d) t m = Unit {0}

-- These events, each with its answer, the newest first, have led to the watched world; and this is
-- told of them.
pub record TrustsBy (watched : WatchedValue) (t : Traces) (doubt : Option Doubt) (limits : Limits)
    (phones : List AddressValue) (past : List (Event × Told)) (last : Machine) : Type 0 where
  pub led : LedTo watched limits phones past last
  pub tells : IsMeant (start limits phones) past last doubt
  pub notes : TracesFollow doubt t last

abbrev pub TrustedBy : TrustedValue → Limits → List AddressValue → List (Event × Told) → Machine
    → Type 0
TrustedBy w limits phones past last =
    TrustsBy w.watched (traces_of w.notes) w.doubt limits phones past last

-- There is such a run, which is the one of these events and answers.
abbrev pub ComesTrusted : Limits → List AddressValue → List (Event × Told) → TrustedValue → Type 0
ComesTrusted limits phones past w =
    (last : Machine) × Run (start limits phones) past last × TrustedBy w limits phones past last

-- What is true of every such world: events have led to it.
pub record IsTrusted (w : TrustedValue) : Type 0 where
  pub limits : Limits
  pub phones : List AddressValue
  pub past : List (Event × Told)
  pub last : Machine
  pub by : TrustedBy w limits phones past last

-- nothing has happened
abbrev pub BeginsTrusted : Limits → List AddressValue → TrustedValue → Type 0
BeginsTrusted limits phones w = ComesTrusted limits phones [] w

-- Whatever has led to the old one, this event with its answer comes after it.
abbrev pub GoesOnTrusted : Event → TrustedValue → Told → TrustedValue → Type 0
GoesOnTrusted event old told new =
    (limits : Limits) (phones : List AddressValue) (past : List (Event × Told))
    → ComesTrusted limits phones past old → ComesTrusted limits phones ((event, told) ∷ past) new

-- What is told of a run: where it is none, the run is honest at every phone; else it is not, and
-- this is the first event that breaks a condition.
abbrev pub AcceptedIsTold : TrustedValue → Option Doubt → Type 0
AcceptedIsTold w doubt =
    (limits : Limits) (phones : List AddressValue) (past : List (Event × Told)) (last : Machine)
    → TrustedBy w limits phones past last → IsMeant (start limits phones) past last doubt

-- Where it is none, each text that is shown as accepted was.
abbrev pub AcceptedMeansAccepted : TrustedValue → Option Doubt → Type 0
AcceptedMeansAccepted w doubt =
    doubt ≡ None
    → (limits : Limits) (phones : List AddressValue) (past : List (Event × Told)) (last : Machine)
    → TrustedBy w limits phones past last
    → (phone : ℕ) → ShownWereAccepted w.watched.world last phone
