-- Which runs are orderly.
pub mod Brought
pub mod Repeats
pub mod Keys
pub mod Late
pub mod Injections
use Rattle.std.specs.Prelude.{List}
use Rattle.sms_world.specs.Told.{Told}
use Rattle.sms_world.specs.Machine.{Machine}
use Rattle.sms_world.specs.Machine.Event.{Event}
use Rattle.sms_world.specs.Machine.Step.{RunWith}
use Rattle.sms_world.specs.Orderly.Repeats.{RepeatsAskForRejection}
use Rattle.sms_world.specs.Orderly.Keys.{NoKeyIsUsedAgain}
use Rattle.sms_world.specs.Orderly.Late.{LateSegmentsAreRemembered}
use Rattle.sms_world.specs.Orderly.Injections.{NothingIsInjected}

-- The event comes in order.
pub record IsOrderly (m : Machine) (event : Event) : Type 0 where
  pub repeats : RepeatsAskForRejection m event
  pub keys : NoKeyIsUsedAgain m event
  pub late : LateSegmentsAreRemembered m event
  pub plain : NothingIsInjected event

-- a run in which each event comes in order
abbrev pub OrderlyRun : Machine → List (Event × Told) → Machine → Type 0
OrderlyRun first past last = RunWith IsOrderly first past last

-- the submission that the event brings, if it brings one, comes in order, and nothing is injected
pub record SubmissionsAreOrderly (m : Machine) (event : Event) : Type 0 where
  pub repeats : RepeatsAskForRejection m event
  pub plain : NothingIsInjected event
