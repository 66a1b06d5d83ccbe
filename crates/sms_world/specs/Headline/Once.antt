-- The centre accepts each segment at most once. The list of acceptances has the newest first.
use Rattle.std.specs.Prelude.{◌≡◌, ◌≢◌, List, ◌∷◌, ◌++◌, Some}
use Rattle.std.specs.List.{Contains}
use Rattle.sms_field.specs.Address.Value.{AddressValue}
use Rattle.sms_message.specs.Message.{Origin}
use Rattle.sms_centre.specs.Centre.State.{Acceptance}
use Rattle.sms_world.specs.Told.{Told}
use Rattle.sms_script.specs.declared.script.limits.Limits.{Limits}
use Rattle.sms_world.specs.Machine.{Machine, start}
use Rattle.sms_world.specs.Machine.Event.{Event}
use Rattle.sms_world.specs.Machine.Step.{RunWith}
use Rattle.sms_world.specs.Orderly.{SubmissionsAreOrderly}

-- Where nothing is injected and repeats ask for rejection in time, no two accepted submissions are
-- of one segment.
abbrev pub AcceptedAtMostOnce : Type 0
AcceptedAtMostOnce =
    (limits : Limits) (phones : List AddressValue) (past : List (Event × Told)) (m : Machine)
    → RunWith SubmissionsAreOrderly (start limits phones) past m
    → (later earlier : List Acceptance) (a b : Acceptance) (o : Origin)
    → m.centre.accepted ≡ later ++ a ∷ earlier → Contains earlier b
    → a.origin ≡ Some o → b.origin ≢ Some o
