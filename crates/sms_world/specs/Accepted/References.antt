-- Message references are not used again while held.
use Rattle.std.specs.Prelude.{◌≡◌, ℕ, ◌<◌, true, Some}
use Rattle.std.specs.List.{Contains}
use Rattle.sms_tpdu.specs.Submit.{Submission}
use Rattle.sms_message.specs.Message.{Origin}
use Rattle.sms_centre.specs.Centre.State.{Acceptance}
use Rattle.sms_world.specs.Machine.{Machine}
use Rattle.sms_world.specs.Machine.Event.{Event}
use Rattle.sms_world.specs.Orderly.Brought.{BringsSubmission}

-- Where an SMS-SUBMIT of this phone that asks for the rejection of duplicates (TP-RD is 1; 3GPP TS
-- 23.040, 9.2.3.25) comes to the centre, and an accepted one from the phone with the same message
-- reference (TP-MR) and the same destination address (TP-DA) has not ended, that one is of the same
-- segment of the same text.
abbrev pub ReferencesAreNotUsedAgain : ℕ → Machine → Event → Type 0
ReferencesAreNotUsedAgain phone m event =
    (s : Submission) (o : Origin) → BringsSubmission m event phone s (Some o)
    → s.reject ≡ true
    → (a : Acceptance) → Contains m.centre.accepted a → m.clock < a.ends → a.phone ≡ phone
    → a.submission.reference ≡ s.reference → a.submission.target ≡ s.target
    → a.origin ≡ Some o
