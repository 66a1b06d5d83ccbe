-- An answer comes to a sender (3GPP TS 24.011, 7.3.3 and 7.3.4).
use Rattle.std.specs.Prelude.{ℕ, suc, ◌-◌, Bool, true, false, if◌then◌else◌, ◌==◌, nat_lt, List, [], ◌∷◌, Option, Some, None, unwrap_or, Ok}
use Rattle.sms_relay.specs.declared.side.Side.TheVariants.{ToPhone}
use Rattle.sms_message.specs.declared.message.Report.{Report}
use Rattle.sms_message.specs.declared.message.Report.TheVariants.{SubmitAck, SubmitError, DeliverAck, DeliverError}
use Rattle.sms_message.specs.declared.message.Relay.{Relay}
use Rattle.sms_message.specs.declared.message.Relay.TheVariants.{Answer}
use Rattle.sms_message.specs.declared.message.Message.{Message}
use Rattle.sms_message.specs.declared.message.Message.TheVariants.{NotCp, Note, Tiny, Data}
use Rattle.sms_message.specs.declared.message.Tag.{Tag}
use Rattle.sms_message.specs.declared.outcome.Outcome.{Outcome}
use Rattle.sms_message.specs.declared.outcome.Outcome.TheVariants.{Segment, Accepted, Failed, Noted}
use Rattle.sms_message.specs.declared.outcome.Dropped.TheVariants as dropped
use Rattle.sms_message.specs.Message.{tag_of, same_tag}
use Rattle.sms_party.specs.Sent.{nth, Centre, Sent, bare, Sends}
use Rattle.sms_party.specs.Sender.Texts.{Sender, SenderState, number_of, size_of}
use Rattle.sms_party.specs.Sender.Putting.{puts, sender_drops, does}
use Rattle.sms_party.specs.Sender.Calls.{ends}

-- the failure cause of the report of an RP-ERROR
abbrev pub failure_of : Option Report → Option ℕ
failure_of (Some (SubmitError r)) = Some r.cause
failure_of (Some (SubmitAck r)) = None
failure_of (Some (DeliverAck r)) = None
failure_of (Some (DeliverError r)) = None
failure_of None = None

-- a duplicate was rejected (3GPP TS 23.040, 9.2.3.22)
abbrev pub is_duplicate : Option ℕ → Bool
is_duplicate None = false
is_duplicate (Some failure) = failure == 0xC5

-- an RP-ACK accepts the segment, whatever its report; so does an RP-ERROR that rejects a duplicate
abbrev pub accepts : Option ℕ → Option Report → Bool
accepts None report = true
accepts (Some cause) report = is_duplicate (failure_of report)

unfoldable pub advanced : Sender → Sender
advanced s =
    record {
      pending = s.pending;
      accepted = suc s.accepted;
      tries = 0;
      outs = s.outs;
      ended = s.ended;
    }

-- a CP-ACK
abbrev pub noted : ℕ → Tag → List Sent
noted phone tag = bare (Centre phone) (Note false tag.value) ∷ []

-- the waiting segment of text n is answered: it is accepted, or not, and others of the text follow,
-- or none
unfoldable pub hears : SenderState → ℕ → Tag → Sender → ℕ → List ℕ → (good more : Bool) → Outcome
    → Sends SenderState
hears x phone tag s n later true true failed =
    does x phone (Segment (number_of (nth x.texts n)) (suc s.accepted)) (noted phone tag)
    (puts x.texts phone (advanced s) x.reject)
hears x phone tag s n later true false failed =
    does x phone (Accepted (number_of (nth x.texts n))) (noted phone tag)
    (puts x.texts phone (ends s n later true) x.reject)
hears x phone tag s n later false more failed =
    does x phone failed (noted phone tag) (puts x.texts phone (ends s n later false) x.reject)

-- An answer counts where a segment waits, and where it has the tag of the latest putting out.
unfoldable pub matches : SenderState → ℕ → Tag → Sender → List ℕ → Option ℕ → Option Report
    → Sends SenderState
matches x phone tag s [] cause report = sender_drops x dropped.Unmatched
matches x phone tag s (n ∷ later) cause report =
    if same_tag tag (tag_of (s.outs - 1))
    then hears x phone tag s n later (accepts cause report)
    (nat_lt (suc s.accepted) (size_of (nth x.texts n)))
    (Failed (number_of (nth x.texts n)) (unwrap_or cause 0) (failure_of report))
    else sender_drops x dropped.Unmatched

-- a CP-DATA with flag 1 comes to the sender
unfoldable pub sender_receives : SenderState → ℕ → Tag → Relay → Sends SenderState
sender_receives x phone tag (Answer ToPhone cause report) =
    matches x phone tag (x.sender phone) (x.sender phone).pending cause report
sender_receives x phone tag _ = sender_drops x dropped.Unmatched

-- A message comes to the sender: CP-ACK and CP-ERROR are noted, and a CP-DATA counts only with flag
-- 1.
unfoldable pub sender_takes : SenderState → ℕ → Message → Sends SenderState
sender_takes x phone NotCp = sender_drops x dropped.NotCp
sender_takes x phone (Note flag value) = record { answer = Ok Noted; put = []; after = x }
sender_takes x phone (Tiny flag value) = sender_drops x dropped.Unmatched
sender_takes x phone (Data true tag relay) = sender_receives x phone tag relay
sender_takes x phone (Data false tag relay) = sender_drops x dropped.Unmatched
