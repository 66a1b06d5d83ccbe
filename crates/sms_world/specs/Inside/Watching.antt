-- A reader may pass this by: contracts of private functions, and proofs, alone cite it.
--
-- Watching, event by event.
use Rattle.std.specs.Prelude.{List, [], Option, Some, None}
use Rattle.sms_field.specs.Address.Value.{AddressValue}
use Rattle.sms_script.specs.declared.meaning.event.Event as script
use Rattle.sms_script.specs.declared.script.limits.Limits.{Limits}
use Rattle.sms_world.specs.declared.order.Disorder.{Disorder}
use Rattle.sms_world.specs.Breaches.{Breaks}
use Rattle.sms_world.specs.Machine.{Machine}
use Rattle.sms_world.specs.Machine.Event.{Event}
use Rattle.sms_world.specs.Orderly.{IsOrderly}
use Rattle.sms_world.specs.Told.{Told}
use Rattle.sms_world.specs.Watched.{WatchedValue, ComesOf, RunsWatched}

-- the event comes in order, or breaks this condition
abbrev pub IsSo : Option Disorder → Machine → Event → Type 0
IsSo None m event = IsOrderly m event
IsSo (Some disorder) m event = Breaks disorder m event

-- Where the old one comes of the first state, these events have led to the new one.
abbrev pub AllGoOnWatched : List script.Event → List Told → WatchedValue → WatchedValue → Type 0
AllGoOnWatched events told old new =
    (limits : Limits) (phones : List AddressValue) → ComesOf limits phones [] old
    → RunsWatched limits phones events told new
