-- Repeats ask for rejection in time.
use Rattle.std.specs.Prelude.{◌≡◌, ℕ, ◌<◌, true, Some}
use Rattle.std.specs.List.{Contains}
use Rattle.sms_tpdu.specs.Submit.{Submission}
use Rattle.sms_message.specs.Message.{Origin}
use Rattle.sms_centre.specs.Centre.State.{Acceptance}
use Rattle.sms_world.specs.Machine.{Machine}
use Rattle.sms_world.specs.Machine.Event.{Event}
use Rattle.sms_world.specs.Orderly.Brought.{BringsSubmission}

-- An SMS-SUBMIT that comes to the centre after one of the same segment of the same text was
-- accepted asks for the rejection of duplicates (TP-RD is 1; 3GPP TS 23.040, 9.2.3.25), and comes
-- before the accepted one's validity ends.
abbrev pub RepeatsAskForRejection : Machine → Event → Type 0
RepeatsAskForRejection m event =
    (phone : ℕ) (s : Submission) (o : Origin) → BringsSubmission m event phone s (Some o)
    → (a : Acceptance) → Contains m.centre.accepted a → a.origin ≡ Some o
    → (s.reject ≡ true) × (m.clock < a.ends)
