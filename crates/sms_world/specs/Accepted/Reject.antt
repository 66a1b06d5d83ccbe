-- What the setting `reject` gives: every submission asks for the rejection of duplicates.
use Rattle.std.specs.Prelude.{◌≡◌, ℕ, ◌<◌, true, List, Option, Some}
use Rattle.std.specs.List.{Contains}
use Rattle.sms_field.specs.Address.Value.{AddressValue}
use Rattle.sms_tpdu.specs.Submit.{Submission}
use Rattle.sms_message.specs.Message.{Origin}
use Rattle.sms_centre.specs.Centre.State.{Acceptance}
use Rattle.sms_world.specs.Told.{Told}
use Rattle.sms_script.specs.declared.script.limits.Limits.{Limits}
use Rattle.sms_world.specs.Machine.{Machine, start}
use Rattle.sms_world.specs.Machine.Event.{Event}
use Rattle.sms_world.specs.Machine.Step.{Run}
use Rattle.sms_world.specs.Orderly.Brought.{BringsSubmission}
use Rattle.sms_world.specs.Orderly.Repeats.{RepeatsAskForRejection}

-- Where the limits say so, each SMS-SUBMIT that an event carries to the centre has TP-RD 1,
-- whatever was injected.
abbrev pub AllReject : Type 0
AllReject =
    (limits : Limits) (phones : List AddressValue) (past : List (Event × Told)) (m : Machine)
    → limits.reject ≡ true → Run (start limits phones) past m
    → (event : Event) (phone : ℕ) (s : Submission) (origin : Option Origin)
    → BringsSubmission m event phone s origin
    → s.reject ≡ true

-- the accepted submissions of the segment that comes have not ended
abbrev pub RepeatsComeInTime : Machine → Event → Type 0
RepeatsComeInTime m event =
    (phone : ℕ) (s : Submission) (o : Origin) → BringsSubmission m event phone s (Some o)
    → (a : Acceptance) → Contains m.centre.accepted a → a.origin ≡ Some o
    → m.clock < a.ends

-- Then of the condition on repeats only their time is left: any copy may come while the accepted
-- one has not ended.
abbrev pub OnlyTimeIsLeft : Type 0
OnlyTimeIsLeft =
    (limits : Limits) (phones : List AddressValue) (past : List (Event × Told)) (m : Machine)
    → limits.reject ≡ true → Run (start limits phones) past m
    → (event : Event) → RepeatsComeInTime m event → RepeatsAskForRejection m event
