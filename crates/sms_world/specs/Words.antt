-- The words of a transcript: what was answered to an event, and what became of a text.
pub mod Order
pub mod Doubts
use Rattle.std.specs.Prelude.{ℕ, List, [], ◌∷◌, Option, Some, None, Ok, Err, codes, decimal}
use Rattle.hex.specs.Hex.{encode_upper}
use Rattle.sms_message.specs.declared.outcome.Outcome.{Outcome}
use Rattle.sms_message.specs.declared.outcome.Outcome.TheVariants.{Typed, Segment, Accepted, Failed, Repeated, GaveUp, Idle, Held, Refused, Pushed, NothingWaits, Delivered, Returned, Abandoned, Finished, Kept, Repeat, Ticked, Noted}
use Rattle.sms_message.specs.declared.outcome.Dropped.{Dropped}
use Rattle.sms_message.specs.declared.outcome.Dropped.TheVariants.{NotCp, Unmatched, Busy, Memory, TooManySegments}
use Rattle.sms_party.specs.declared.sender.Status.{Status}
use Rattle.sms_party.specs.declared.sender.Status.TheVariants as status
use Rattle.sms_script.specs.Transcript.Appended.{◌⊕◌}
use Rattle.sms_world.specs.declared.fault.WorldFault.{WorldFault}
use Rattle.sms_world.specs.declared.fault.WorldFault.TheVariants.{NoSuchPacket, NoSuchPhone, ClockEnd, Party}
use Rattle.sms_world.specs.Told.{Told}

-- a failure cause (TP-FCS) in two digits, none as `-`
abbrev pub failure_text : Option ℕ → List ℕ
failure_text (Some failure) = encode_upper (failure ∷ [])
failure_text None = codes "-"

-- what a party did
abbrev pub outcome_text : Outcome → List ℕ
outcome_text (Typed text) = codes "typed " ⊕ decimal text
outcome_text (Segment text segment) = codes "segment " ⊕ decimal text ⊕ codes " " ⊕ decimal segment
outcome_text (Accepted text) = codes "accepted " ⊕ decimal text
outcome_text (Failed text cause failure) =
    codes "failed " ⊕ decimal text ⊕ codes " " ⊕ decimal cause ⊕ codes " " ⊕ failure_text failure
outcome_text (Repeated text) = codes "repeated " ⊕ decimal text
outcome_text (GaveUp text) = codes "gave up " ⊕ decimal text
outcome_text Idle = codes "idle"
outcome_text Held = codes "held"
outcome_text (Refused cause failure) =
    codes "refused " ⊕ decimal cause ⊕ codes " " ⊕ failure_text failure
outcome_text Pushed = codes "pushed"
outcome_text NothingWaits = codes "nothing waits"
outcome_text Delivered = codes "delivered"
outcome_text Returned = codes "returned"
outcome_text Abandoned = codes "abandoned"
outcome_text Finished = codes "finished"
outcome_text Kept = codes "kept"
outcome_text Repeat = codes "repeat"
outcome_text Ticked = codes "ticked"
outcome_text Noted = codes "noted"

-- why a party dropped what came
abbrev pub dropped_text : Dropped → List ℕ
dropped_text NotCp = codes "drop not cp"
dropped_text Unmatched = codes "drop unmatched"
dropped_text Busy = codes "drop busy"
dropped_text Memory = codes "drop memory"
dropped_text TooManySegments = codes "drop too many segments"

-- why nothing came of an event
abbrev pub fault_text : WorldFault → List ℕ
fault_text NoSuchPacket = codes "fault no such packet"
fault_text NoSuchPhone = codes "fault no such phone"
fault_text ClockEnd = codes "fault clock end"
fault_text (Party why) = dropped_text why

-- what was answered to an event
abbrev pub told_text : Told → List ℕ
told_text (Ok outcome) = outcome_text outcome
told_text (Err fault) = fault_text fault

-- what became of a text
abbrev pub status_text : Status → List ℕ
status_text status.Waiting = codes "waiting"
status_text status.Accepted = codes "accepted"
status_text status.Failed = codes "failed"
