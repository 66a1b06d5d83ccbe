-- A world that is watched, as contracts see it: what has led to it, and what it tells.
pub mod Network
use Rattle.std.specs.Prelude.{◌≡◌, ℕ, min, ◌^◌, ◌-◌, ◌<◌, List, [], ◌∷◌, length, Option, None}
use Rattle.sms_field.specs.Address.Value.{AddressValue}
use Rattle.sms_script.specs.declared.script.limits.Limits.{Limits}
use Rattle.sms_script.specs.declared.meaning.event.Event as script
use Rattle.sms_world.specs.declared.order.Breach.{Breach}
use Rattle.sms_world.specs.Breaches.{IsTold, Watches}
use Rattle.sms_world.specs.Ledger.{Ledger}
use Rattle.sms_world.specs.Tables.{Tables, ledger_of}
use Rattle.sms_world.specs.Machine.{Machine, start}
use Rattle.sms_world.specs.Machine.Event.{Event}
use Rattle.sms_world.specs.Machine.Step.{Run}
use Rattle.sms_world.specs.Told.{Told}
use Rattle.sms_world.specs.World.Claims.{StoreIsWhole}
use Rattle.sms_world.specs.World.Standing.{StandsFor}
use Rattle.sms_world.specs.World.Steps.{told_past}
use Rattle.sms_world.specs.World.Value.{WorldValue}

pub record WatchedValue : Type 0 where
  pub world : WorldValue
  -- what is noted of the events
  pub notes : Tables
  -- how many there were
  pub events : ℕ
  -- the first that came out of order
  pub breach : Option Breach

-- These events, each with its answer, the newest first, have led from the first state of these
-- limits and phones to the last, for which the world stands; and they were watched.
pub record LedBy (world : WorldValue) (l : Ledger) (events : ℕ) (breach : Option Breach)
    (limits : Limits) (phones : List AddressValue) (past : List (Event × Told))
    (last : Machine) : Type 0 where
  pub watches : Watches limits phones past last l breach
  pub stands : StandsFor world last
  pub counted : events ≡ min (length past) (2 ^ 64 - 1)

abbrev pub LedTo : WatchedValue → Limits → List AddressValue → List (Event × Told) → Machine
    → Type 0
LedTo w limits phones past last =
    LedBy w.world (ledger_of w.notes) w.events w.breach limits phones past last

-- There is such a run, which is the one of these events and answers.
abbrev pub ComesOf : Limits → List AddressValue → List (Event × Told) → WatchedValue → Type 0
ComesOf limits phones past w =
    (last : Machine) × Run (start limits phones) past last × LedTo w limits phones past last

-- What is true of every watched world: events have led to it.
pub record IsWatched (w : WatchedValue) : Type 0 where
  pub limits : Limits
  pub phones : List AddressValue
  pub past : List (Event × Told)
  pub last : Machine
  pub led : LedTo w limits phones past last

-- nothing has happened
abbrev pub BeginsWatched : Limits → List AddressValue → WatchedValue → Type 0
BeginsWatched limits phones w = ComesOf limits phones [] w

-- Whatever has led to the old one, this event with its answer comes after it.
abbrev pub GoesOnWatched : Event → WatchedValue → Told → WatchedValue → Type 0
GoesOnWatched event old told new =
    (limits : Limits) (phones : List AddressValue) (past : List (Event × Told))
    → ComesOf limits phones past old → ComesOf limits phones ((event, told) ∷ past) new

-- What is told of the order of a run: where it is none, the run is orderly; else it is not, and
-- this is the first event that comes out of order.
abbrev pub OrderIsTold : WatchedValue → Option Breach → Type 0
OrderIsTold w breach =
    (limits : Limits) (phones : List AddressValue) (past : List (Event × Told)) (last : Machine)
    → LedTo w limits phones past last → IsTold (start limits phones) past last breach

-- Where it is none, each store is whole.
abbrev pub StoresAreKept : WatchedValue → Option Breach → Type 0
StoresAreKept w breach =
    breach ≡ None
    → (limits : Limits) (phones : List AddressValue) (past : List (Event × Told)) (last : Machine)
    → LedTo w limits phones past last
    → (phone : ℕ) → phone < length w.world.parties.phones → StoreIsWhole w.world last phone

-- These events, each with its answer, have led to the watched world.
abbrev pub RunsWatched : Limits → List AddressValue → List script.Event → List Told → WatchedValue
    → Type 0
RunsWatched limits phones events told w =
    (length told ≡ length events) × ComesOf limits phones (told_past events told) w
