-- A reader may pass this by: contracts of private functions, and proofs, alone cite it.
use Rattle.std.specs.Prelude.{◌≡◌, ℕ, ◌+◌, ◌%◌, Bool, true, false, if◌then◌else◌, ◌==◌, nat_lt, List, [], ◌∷◌, ◌++◌, length, map, drop, Option, option_to_list, Some, None, unwrap_or, Result, Ok, Err, slice_get}
use Rattle.std.specs.Global.{Global}
use Rattle.std.proofs.Common.{Vec}
use Rattle.arrayvec.specs.ArrayVec.{ArrayVec}
use Rattle.sms_field.specs.Address.Value.{AddressValue}
use Rattle.sms_field.specs.declared.validity.Validity.TheVariants.{Absent}
use Rattle.sms_tpdu.specs.Submit.{Submission}
use Rattle.sms_tpdu.specs.declared.user_data.concat.Width.{Width}
use Rattle.sms_tpdu.specs.declared.user_data.concat.Width.TheVariants.{Eight, Sixteen}
use Rattle.sms_relay.specs.declared.side.Side.TheVariants.{FromPhone}
use Rattle.sms_join.specs.declared.segment.Segment.{Segment}
use Rattle.sms_join.specs.Segments.User.{dcs_of, user_of}
use Rattle.sms_message.specs.declared.message.TransferUnit.TheVariants.{Submit}
use Rattle.sms_message.specs.declared.message.Relay.TheVariants.{Transfer}
use Rattle.sms_message.specs.declared.message.Report.{Report}
use Rattle.sms_message.specs.declared.message.Message.{Message}
use Rattle.sms_message.specs.declared.message.Message.TheVariants.{Note, Data}
use Rattle.sms_message.specs.declared.message.Tag.{Tag}
use Rattle.sms_message.specs.declared.outcome.Outcome.{Outcome}
use Rattle.sms_message.specs.declared.outcome.Outcome.TheVariants as outcome
use Rattle.sms_message.specs.declared.outcome.Dropped.TheVariants as dropped
use Rattle.sms_party.specs.declared.sender.putting.Putting.{Putting}
use Rattle.sms_party.specs.declared.sender.putting.Putting.TheVariants.{Again, NextSegment, NextText}
use Rattle.sms_party.specs.declared.sender.Status.{Status}
use Rattle.sms_party.specs.declared.sender.Status.TheVariants.{Accepted, Failed}
use Rattle.sms_message.specs.Message.{following, same_tag}
use Rattle.sms_party.specs.Sender.Answers.{failure_of, accepts}
use Rattle.sms_message.specs.declared.outcome.Step.{Step}
use Rattle.sms_message.specs.declared.outcome.Dropped.{Dropped}
use Rattle.sms_message.specs.Does.{Does, CarriesEach, Answered}
use Rattle.sms_party.specs.Sender.Value.{TextValue, SenderValue}

-- ---- a segment is put out

-- the submission of the segment at a place, counted from 0
abbrev pub submission_in : TextValue → ℕ → Segment → Bool → Submission
submission_in t place segment reject =
    record {
      reject = reject;
      validity = Absent;
      report = false;
      reply = false;
      reference = (t.reference + place) % 256;
      target = t.target;
      pid = 0;
      dcs = dcs_of segment.units;
      user = user_of t.width t.set_reference segment;
    }

abbrev pub segment_put : Tag → Bool → TextValue → ℕ → Option Segment → List Message
segment_put tag reject t place None = []
segment_put tag reject t place (Some segment) =
    Data false tag (Transfer FromPhone (Submit (submission_in t place segment reject))) ∷ []

-- the segment at a place, if there is one
abbrev pub text_put : Tag → Bool → ℕ → Option TextValue → List Message
text_put tag reject place None = []
text_put tag reject place (Some t) = segment_put tag reject t place (slice_get t.segments place)

-- what is put out; and of which of the texts that wait it is, counted from 0
abbrev pub put_by : SenderValue → Putting → List Message
put_by v Again = text_put v.next true v.accepted (slice_get v.pending 0)
put_by v NextSegment = text_put v.next v.reject (v.accepted + 1) (slice_get v.pending 0)
put_by v NextText = text_put v.next v.reject 0 (slice_get v.pending 1)

abbrev pub turn_of : Putting → ℕ
turn_of Again = 0
turn_of NextSegment = 0
turn_of NextText = 1

-- what was put out took the next tag
abbrev pub counted : SenderValue → List Message → SenderValue
counted v [] = v
counted v (m ∷ ms) = record v { next = following v.next; latest = v.next }

-- the waiting segment is put out, after these messages
abbrev pub puts_out : SenderValue → Bool → Outcome → List Message → Does SenderValue
puts_out v reject word first =
    record {
      answer = Ok word;
      put = first ++ text_put v.next reject v.accepted (slice_get v.pending 0);
      after = counted v (text_put v.next reject v.accepted (slice_get v.pending 0));
    }

-- what a packet carries, if there is one
abbrev pub CarriesOptional : Option (Vec ℕ Global) → List Message → Type 0
CarriesOptional packet messages = CarriesEach (map (λ p. p.items) (option_to_list packet)) messages

-- what a list of packets carries
abbrev pub CarriesAll : ArrayVec (Vec ℕ Global) → List Message → Type 0
CarriesAll packets messages = CarriesEach (map (λ p. p.items) packets.items) messages

-- ---- calls

-- the call of a value did this
abbrev pub Did : Does SenderValue → SenderValue → Result Step Dropped → SenderValue → Type 0
Did d old result new = Answered (λ v. new ≡ v) old d result

abbrev pub next_set : Width → ℕ → ℕ → ℕ
next_set Eight size reference = if nat_lt 1 size then (reference + 1) % 256 else reference
next_set Sixteen size reference = if nat_lt 1 size then (reference + 1) % 65536 else reference

-- the text of these segments
abbrev pub text_in : SenderValue → AddressValue → List Segment → TextValue
text_in v target segments =
    record {
      target = target;
      segments = segments;
      reference = v.message_reference;
      width = v.width;
      set_reference = v.set_reference;
    }

-- it is one more
abbrev pub entered : SenderValue → TextValue → SenderValue
entered v t =
    record v {
      pending = v.pending ++ t ∷ [];
      message_reference = (v.message_reference + length t.segments) % 256;
      set_reference = next_set v.width (length t.segments) v.set_reference;
    }

abbrev pub number_in : SenderValue → ℕ
number_in v = length v.ended + length v.pending + 1

-- its first segment, where no other text waits
abbrev pub first_put : SenderValue → TextValue → List Message
first_put v t = if length v.pending == 0 then text_put v.next v.reject v.accepted (Some t) else []

abbrev pub enters : SenderValue → TextValue → Does SenderValue
enters v t =
    record {
      answer = Ok (outcome.Typed (number_in v));
      put = first_put v t;
      after = counted (entered v t) (first_put v t);
    }

-- the first text has ended, and these are left
abbrev pub ended_with : SenderValue → List TextValue → Status → SenderValue
ended_with v later status =
    record v { pending = later; accepted = 0; repeats = 0; ended = v.ended ++ status ∷ [] }

abbrev pub repeated : SenderValue → SenderValue
repeated v = record v { repeats = v.repeats + 1 }

abbrev pub waits_no_more : SenderValue → List TextValue → Does SenderValue
waits_no_more v [] = record { answer = Ok outcome.Idle; put = []; after = v }
waits_no_more v (t ∷ later) =
    if nat_lt v.repeats 3
    then puts_out (repeated v) true (outcome.Repeated (length v.ended + 1)) []
    else puts_out (ended_with v later Failed) v.reject (outcome.GaveUp (length v.ended + 1)) []

abbrev pub stepped : SenderValue → SenderValue
stepped v = record v { accepted = v.accepted + 1; repeats = 0 }

abbrev pub settles : SenderValue → List TextValue → (good more : Bool) → Outcome → List Message
    → Does SenderValue
settles v later true true failed note =
    puts_out (stepped v) v.reject (outcome.Segment (length v.ended + 1) (v.accepted + 1)) note
settles v later true false failed note =
    puts_out (ended_with v later Accepted) v.reject (outcome.Accepted (length v.ended + 1)) note
settles v later false more failed note = puts_out (ended_with v later Failed) v.reject failed note

abbrev pub hears_at : SenderValue → Tag → Option ℕ → Option Report → List TextValue
    → Does SenderValue
hears_at v tag cause report [] = record { answer = Err dropped.Unmatched; put = []; after = v }
hears_at v tag cause report (t ∷ later) =
    if same_tag tag v.latest
    then settles v later (accepts cause report) (nat_lt (v.accepted + 1) (length t.segments))
    (outcome.Failed (length v.ended + 1) (unwrap_or cause 0) (failure_of report))
    (Note false tag.value ∷ [])
    else record { answer = Err dropped.Unmatched; put = []; after = v }

-- ---- the parts of a call

-- the waiting segment is put out once more
abbrev pub puts_again : SenderValue → Does SenderValue
puts_again v = puts_out (repeated v) true (outcome.Repeated (length v.ended + 1)) []

-- the next segment of the first text is put out, after a note
abbrev pub puts_next : SenderValue → List Message → Does SenderValue
puts_next v note =
    puts_out (stepped v) v.reject (outcome.Segment (length v.ended + 1) (v.accepted + 1)) note

-- the first text ends, and the first segment of the next one is put out, after a note
abbrev pub ends_first : SenderValue → Outcome → Status → List Message → Does SenderValue
ends_first v word status note = puts_out (ended_with v (drop 1 v.pending) status) v.reject word note
