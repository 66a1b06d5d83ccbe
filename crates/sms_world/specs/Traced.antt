-- What is noted of an event and its answer, and that the notes stay right; and that what they tell of
-- an event is so.
use Rattle.std.specs.Prelude.{◌≡◌, ℕ, zero, suc, Bool, true, false, ◌&&◌, ◌==◌, if◌then◌else◌, List, [], ◌∷◌, length, Option, Some, None, Ok}
use Rattle.sms_field.specs.Address.Value.{AddressValue}
use Rattle.sms_message.specs.Address.{are_distinct}
use Rattle.sms_message.specs.Changed.{changed}
use Rattle.sms_message.specs.declared.outcome.Outcome.TheVariants.{Typed, Held}
use Rattle.sms_party.specs.Sent.{Sent}
use Rattle.sms_script.specs.declared.script.limits.Limits.{Limits}
use Rattle.sms_world.specs.declared.doubt.Doubt.{Doubt}
use Rattle.sms_world.specs.declared.doubt.Ground.{Ground}
use Rattle.sms_world.specs.declared.notes.mark.Part.{Part}
use Rattle.sms_world.specs.Doubts.{IsHonest, HonestRun, Shakes}
use Rattle.sms_world.specs.Ledger as ledger
use Rattle.sms_world.specs.Ledger.{Mark, SenderNote, called, called_marks}
use Rattle.sms_world.specs.Machine.{Machine, start}
use Rattle.sms_world.specs.Machine.Event.{Event, Compose, Carry, Timeout, Push, Tick, Inject}
use Rattle.sms_world.specs.Machine.Next.{entered}
use Rattle.sms_world.specs.Machine.Step.{Step}
use Rattle.sms_world.specs.Told.{Told}
use Rattle.sms_world.specs.Traces.{Trace, Seen, Submits, Answers, Other, Brought, HeldNote, adds, Traces, AreTracesOf, trace_at, ground_at, brought_at}

-- ---- a sender was called

abbrev pub bare_trace : Option ℕ → Trace
bare_trace putting = record { segment = None; putting = putting }

-- of what a sender has put out with these marks, where it had put out so often
abbrev pub called_traces : ℕ → List Mark → List Trace
called_traces outs [] = []
called_traces outs (ledger.Submits text segment reject ∷ marks) =
    record { segment = Some (record { text = text; segment = segment }); putting = Some outs }
    ∷ called_traces (suc outs) marks
called_traces outs (ledger.Delivers phone text segment ∷ marks) =
    bare_trace None ∷ called_traces outs marks
called_traces outs (ledger.Neither ∷ marks) = bare_trace None ∷ called_traces outs marks

-- how often it has put out then
abbrev pub called_outs : ℕ → List Mark → ℕ
called_outs outs [] = outs
called_outs outs (ledger.Submits text segment reject ∷ marks) = called_outs (suc outs) marks
called_outs outs (ledger.Delivers phone text segment ∷ marks) = called_outs outs marks
called_outs outs (ledger.Neither ∷ marks) = called_outs outs marks

abbrev pub numbers_after : List ℕ → Told → List ℕ
numbers_after numbers (Ok (Typed number)) = number ∷ numbers
numbers_after numbers _ = numbers

abbrev pub call_traced : Traces → Bool → ℕ → Told → Traces
call_traced t reject phone told =
    let note = called (length t.numbers) (t.sender phone) told in
    let marks = called_marks note reject told in
    record {
      sent = entered (called_traces (t.outs phone) marks) t.sent;
      numbers = numbers_after t.numbers told;
      sender = changed t.sender phone note;
      outs = changed t.outs phone (called_outs (t.outs phone) marks);
      held = t.held;
    }

-- ---- others have put out

-- as many packets that are of no segment, and came of this putting out
abbrev pub bare_traces : ℕ → Option ℕ → List Trace
bare_traces zero putting = []
bare_traces (suc n) putting = bare_trace putting ∷ bare_traces n putting

abbrev pub with_traces : Traces → ℕ → Option ℕ → Traces
with_traces t put putting =
    record {
      sent = entered (bare_traces put putting) t.sent;
      numbers = t.numbers;
      sender = t.sender;
      outs = t.outs;
      held = t.held;
    }

-- ---- the centre has accepted a submission

abbrev pub holds : Traces → ℕ → ℕ → ℕ → Option Part → ℕ → Traces
holds t phone reference recipient part ends =
    record {
      sent = t.sent;
      numbers = t.numbers;
      sender = t.sender;
      outs = t.outs;
      held = λ p r q.
          if phone == p && (reference == r && recipient == q)
          then Some (adds (t.held p r q) part ends)
          else t.held p r q;
    }

abbrev pub holds_if : Traces → ℕ → ℕ → Option ℕ → Option ℕ → Option Part → Traces
holds_if t phone reference (Some recipient) (Some ends) part =
    holds t phone reference recipient part ends
holds_if t phone reference (Some recipient) None part = t
holds_if t phone reference None ends part = t

abbrev pub submission_traced : Traces → ℕ → ℕ → Option ℕ → Option ℕ → Option Part → Told → Traces
submission_traced t phone reference recipient ends part (Ok Held) =
    holds_if t phone reference recipient ends part
submission_traced t phone reference recipient ends part _ = t

abbrev pub taken_traced : Traces → ℕ → Seen → Option Part → Told → Traces
taken_traced t phone (Submits reject reference recipient ends) part told =
    submission_traced t phone reference recipient ends part told
taken_traced t phone (Answers tag) part told = t
taken_traced t phone Other part told = t

-- ---- an event

abbrev pub down_traced : Traces → Bool → ℕ → Seen → Told → ℕ → Traces
down_traced t reject phone (Answers tag) told put = call_traced t reject phone told
down_traced t reject phone (Submits again reference recipient ends) told put =
    with_traces t put None
down_traced t reject phone Other told put = with_traces t put None

abbrev pub way_traced : Traces → Bool → Bool → ℕ → Seen → Trace → Told → ℕ → Traces
way_traced t reject true phone seen trace told put =
    with_traces (taken_traced t phone seen trace.segment told) put trace.putting
way_traced t reject false phone seen trace told put = down_traced t reject phone seen told put

abbrev pub carry_traced : Traces → Bool → Option Trace → Option Brought → Told → ℕ → Traces
carry_traced t reject (Some trace) (Some b) told put =
    way_traced t reject b.up b.phone b.seen trace told put
carry_traced t reject (Some trace) None told put = t
carry_traced t reject None b told put = t

-- This was brought, and so many packets were put out.
unfoldable pub traced : Traces → Bool → Event → Told → Option Brought → ℕ → Traces
traced t reject (Compose phone target characters) told b put = call_traced t reject phone told
traced t reject (Timeout phone) told b put = call_traced t reject phone told
traced t reject (Carry k) told b put = carry_traced t reject (trace_at t.sent k) b told put
traced t reject (Push phone) told b put = with_traces t put None
traced t reject (Tick seconds) told b put = t
traced t reject (Inject place octets) told b put = t

-- ---- the laws

-- the event meets the conditions at every phone, or breaks this one
abbrev pub IsGround : Option Ground → Machine → Event → Type 0
IsGround None m event = IsHonest m event
IsGround (Some why) m event = Shakes why m event

-- After each honest run of phones with different addresses, where the notes are right: what they tell
-- of an event is so; and where it meets the conditions, they stay right.
pub record TracesTell : Type 0 where
  pub tell :
      (limits : Limits) (phones : List AddressValue) (past : List (Event × Told)) (m : Machine)
      → are_distinct phones ≡ true → HonestRun (start limits phones) past m
      → (t : Traces) → AreTracesOf t m
      → (event : Event) → IsGround (ground_at t m.clock event (brought_at m event)) m event
  pub stay :
      (limits : Limits) (phones : List AddressValue) (past : List (Event × Told)) (m : Machine)
      → are_distinct phones ≡ true → HonestRun (start limits phones) past m
      → (t : Traces) → AreTracesOf t m
      → (event : Event) → IsHonest m event
      → (told : Told) (put : List Sent) (n : Machine) → Step m event told put n
      → AreTracesOf (traced t m.senders.reject event told (brought_at m event) (length put)) n
