-- What is noted while a world runs of what was put out and of what was accepted, so that it can be
-- told whether `accepted` means accepted: and what it means that the notes are right. Lists have the
-- newest entry first.
use Rattle.std.specs.Prelude.{◌≡◌, ℕ, zero, suc, ◌-◌, ◌<◌, ◌≤◌, max, Bool, true, false, not, ◌&&◌, ◌||◌, ◌==◌, if◌then◌else◌, nat_lt, nat_le, List, [], ◌∷◌, length, map, Option, Some, None, Result, Ok, Err}
use Rattle.std.specs.List.{AllByRecursion}
use Rattle.std.specs.Option.{option_map, unwrap_or}
use Rattle.sms_field.specs.Address.Value.{AddressValue}
use Rattle.sms_field.specs.Time.Computed.{end_of}
use Rattle.sms_field.specs.declared.validity.ValidityFault.{ValidityFault}
use Rattle.sms_tpdu.specs.Submit.{Submission}
use Rattle.sms_relay.specs.declared.side.Side.TheVariants.{FromPhone, ToPhone}
use Rattle.sms_message.specs.declared.message.TransferUnit.{TransferUnit}
use Rattle.sms_message.specs.declared.message.TransferUnit.TheVariants.{Submit, Deliver, OtherUnit, BadUnit}
use Rattle.sms_message.specs.declared.message.Relay.{Relay}
use Rattle.sms_message.specs.declared.message.Relay.TheVariants.{Transfer, Answer, UnknownType, Unreadable}
use Rattle.sms_message.specs.declared.message.Message.{Message}
use Rattle.sms_message.specs.declared.message.Message.TheVariants.{NotCp, Note, Tiny, Data}
use Rattle.sms_message.specs.declared.message.Tag.{Tag}
use Rattle.sms_message.specs.Address.{phone_at}
use Rattle.sms_message.specs.Message.{Origin, tag_of, same_tag}
use Rattle.sms_centre.specs.Centre.State.{Acceptance}
use Rattle.sms_party.specs.Sent.{nth, Place, Centre, Phone, Sent}
use Rattle.sms_party.specs.Sender.Texts.{Text}
use Rattle.sms_world.specs.declared.doubt.Ground.{Ground}
use Rattle.sms_world.specs.declared.doubt.Ground.TheVariants.{AnswerToAnother, ReferenceUsedAgain, Injected}
use Rattle.sms_world.specs.declared.notes.mark.Part.{Part}
pub use Rattle.sms_world.specs.declared.traces.trace.Trace.{Trace}
pub use Rattle.sms_world.specs.declared.traces.trace.Seen.{Seen}
pub use Rattle.sms_world.specs.declared.traces.trace.Seen.TheVariants.{Submits, Answers, Other}
pub use Rattle.sms_world.specs.declared.traces.trace.Brought.{Brought}
pub use Rattle.sms_world.specs.declared.traces.held.HeldNote.{HeldNote}
use Rattle.sms_world.specs.Ledger.{SenderNote, SenderNoted}
use Rattle.sms_world.specs.Machine.{Machine}
use Rattle.sms_world.specs.Machine.Event.{Event, Compose, Carry, Timeout, Push, Tick, Inject}
use Rattle.sms_world.specs.Machine.Next.{packet}

-- ---- packets

abbrev pub part_of : Origin → Part
part_of o = record { text = o.text; segment = o.segment }

abbrev pub segment_up : Place → Option Origin → Option Part
segment_up (Centre phone) origin = option_map part_of origin
segment_up (Phone phone) origin = None

-- Of a packet to the centre, the segment that it is of; and which putting out of its sender it is, or
-- came of.
abbrev pub trace_of : Sent → Trace
trace_of x = record { segment = segment_up x.to x.origin; putting = x.putting }

-- the text that a submission is of was typed at its phone
abbrev pub IsTypedThere : List Text → ℕ → Origin → Type 0
IsTypedThere texts phone o = (t : Text) × (nth texts o.text ≡ Some t) × (t.phone ≡ phone)

abbrev pub IsUnitThere : List Text → ℕ → Origin → TransferUnit → Type 0
IsUnitThere texts phone o (Submit s) = IsTypedThere texts phone o
IsUnitThere texts phone o (Deliver d) = Unit {0}
IsUnitThere texts phone o OtherUnit = Unit {0}
IsUnitThere texts phone o BadUnit = Unit {0}

abbrev pub IsRelayThere : List Text → ℕ → Origin → Relay → Type 0
IsRelayThere texts phone o (Transfer side unit) = IsUnitThere texts phone o unit
IsRelayThere texts phone o (Answer side cause report) = Unit {0}
IsRelayThere texts phone o UnknownType = Unit {0}
IsRelayThere texts phone o Unreadable = Unit {0}

abbrev pub IsMessageThere : List Text → ℕ → Origin → Message → Type 0
IsMessageThere texts phone o (Data flag tag relay) = IsRelayThere texts phone o relay
IsMessageThere texts phone o NotCp = Unit {0}
IsMessageThere texts phone o (Note flag value) = Unit {0}
IsMessageThere texts phone o (Tiny flag value) = Unit {0}

abbrev pub IsOfItsPhone : List Text → Place → Option Origin → Message → Type 0
IsOfItsPhone texts (Centre phone) (Some o) message = IsMessageThere texts phone o message
IsOfItsPhone texts (Centre phone) None message = Unit {0}
IsOfItsPhone texts (Phone phone) origin message = Unit {0}

-- ---- accepted submissions

abbrev pub same_part : Option Part → Option Part → Bool
same_part (Some p) (Some q) = p.text == q.text && p.segment == q.segment
same_part None None = true
same_part (Some p) None = false
same_part None (Some q) = false

-- Of accepted submissions with one phone, one message reference and one recipient: the segment of
-- which one ends last, when it ends, and when the last one ends that is of another segment. One more
-- is accepted, of this segment, and ends so:
abbrev pub adds : Option HeldNote → Option Part → ℕ → HeldNote
adds None part end = record { last = part; end = end; other = 0 }
adds (Some h) part end =
    if same_part h.last part then record { last = h.last; end = max h.end end; other = h.other }
    else (if nat_le h.end end then record { last = part; end = end; other = h.end }
    else record { last = h.last; end = h.end; other = max h.other end })

abbrev pub held_of : List Acceptance → ℕ → ℕ → ℕ → Option HeldNote
held_of [] phone reference recipient = None
held_of (a ∷ past) phone reference recipient =
    if a.phone == phone && (a.submission.reference == reference && a.recipient == recipient)
    then Some (adds (held_of past phone reference recipient) (option_map part_of a.origin) a.ends)
    else held_of past phone reference recipient

-- one of another segment than this has not ended
abbrev pub is_other_held : Option HeldNote → Option Part → ℕ → Bool
is_other_held None part now = false
is_other_held (Some h) part now =
    if same_part h.last part then nat_lt now h.other else nat_lt now h.end

-- ---- what an event brings

abbrev pub end_in : Result ℕ ValidityFault → Option ℕ
end_in (Ok ends) = Some ends
end_in (Err why) = None

-- An SMS-SUBMIT: its TP-RD, its TP-MR, the phone that has its TP-DA, and the end of its validity if
-- it is accepted now.
abbrev pub seen_submission : List AddressValue → ℕ → Submission → Seen
seen_submission phones now s =
    Submits s.reject s.reference (phone_at phones s.target) (end_in (end_of s.validity now))

abbrev pub seen_unit : List AddressValue → ℕ → TransferUnit → Seen
seen_unit phones now (Submit s) = seen_submission phones now s
seen_unit phones now (Deliver d) = Other
seen_unit phones now OtherUnit = Other
seen_unit phones now BadUnit = Other

-- That of a phone, or an RP-ACK or RP-ERROR to what a phone has sent, with its tag; or neither.
abbrev pub seen_relay : List AddressValue → ℕ → Bool → Tag → Relay → Seen
seen_relay phones now false tag (Transfer FromPhone unit) = seen_unit phones now unit
seen_relay phones now false tag (Transfer ToPhone unit) = Other
seen_relay phones now false tag (Answer side cause report) = Other
seen_relay phones now true tag (Answer side cause report) = Answers tag
seen_relay phones now true tag (Transfer side unit) = Other
seen_relay phones now flag tag UnknownType = Other
seen_relay phones now flag tag Unreadable = Other

abbrev pub seen_of : List AddressValue → ℕ → Message → Seen
seen_of phones now (Data flag tag relay) = seen_relay phones now flag tag relay
seen_of phones now NotCp = Other
seen_of phones now (Note flag value) = Other
seen_of phones now (Tiny flag value) = Other

-- with where it goes
abbrev pub brought_to : Place → Seen → Brought
brought_to (Centre phone) seen = record { up = true; phone = phone; seen = seen }
brought_to (Phone phone) seen = record { up = false; phone = phone; seen = seen }

abbrev pub brought_of : List AddressValue → ℕ → Sent → Brought
brought_of phones now x = brought_to x.to (seen_of phones now x.message)

-- what an event brings
abbrev pub brought_at : Machine → Event → Option Brought
brought_at m (Carry k) = option_map (brought_of m.phones m.clock) (packet m k)
brought_at m (Compose phone target characters) = None
brought_at m (Timeout phone) = None
brought_at m (Push phone) = None
brought_at m (Tick seconds) = None
brought_at m (Inject place octets) = None

-- ---- all of it

pub record Traces : Type 0 where
  -- of each packet
  pub sent : List Trace
  -- of each text, as which of those of its phone it was typed
  pub numbers : List ℕ
  -- of each phone its texts, and how often it has put out a submission
  pub sender : ℕ → SenderNote
  pub outs : ℕ → ℕ
  -- of each phone, message reference and recipient
  pub held : ℕ → ℕ → ℕ → Option HeldNote

-- nothing is noted
abbrev pub new_traces : Traces
new_traces =
    record {
      sent = [];
      numbers = [];
      sender = λ phone. record { typed = []; ended = 0; accepted = 0 };
      outs = λ phone. 0;
      held = λ phone reference recipient. None;
    }

-- They say the same.
pub record TraceAlike (t u : Traces) : Type 0 where
  pub sent : u.sent ≡ t.sent
  pub numbers : u.numbers ≡ t.numbers
  pub sender : (phone : ℕ) → u.sender phone ≡ t.sender phone
  pub outs : (phone : ℕ) → u.outs phone ≡ t.outs phone
  pub held : (phone reference recipient : ℕ)
      → u.held phone reference recipient ≡ t.held phone reference recipient

-- The notes are right, of this state of the machine.
pub record AreTracesOf (t : Traces) (m : Machine) : Type 0 where
  pub sent : t.sent ≡ map trace_of m.sent
  pub numbers : t.numbers ≡ map (λ x. x.number) m.senders.texts
  pub senders : (phone : ℕ) → SenderNoted (m.senders.sender phone) (t.sender phone)
  pub outs : (phone : ℕ) → t.outs phone ≡ (m.senders.sender phone).outs
  pub few : (phone : ℕ) → (m.senders.sender phone).outs ≤ length m.sent
  pub held : (phone reference recipient : ℕ)
      → t.held phone reference recipient ≡ held_of m.centre.accepted phone reference recipient
  pub own : AllByRecursion (λ x. IsOfItsPhone m.senders.texts x.to x.origin x.message) m.sent

-- ---- the test

-- the trace of the packet of this number, counted from 1
abbrev pub trace_at : List Trace → ℕ → Option Trace
trace_at traces zero = None
trace_at traces (suc k) = nth traces k

-- it came of this putting out
abbrev pub is_putting : Option ℕ → ℕ → Bool
is_putting None n = false
is_putting (Some k) n = k == n

-- an answer to a phone that has put out so often has the tag of the last of them, and is none to it
abbrev pub is_to_another : ℕ → Tag → Option ℕ → Bool
is_to_another zero tag putting = false
is_to_another (suc last) tag putting = same_tag tag (tag_of last) && not (is_putting putting last)

abbrev pub answer_ground : Traces → ℕ → Tag → Option ℕ → Option Ground
answer_ground t phone tag putting =
    if is_to_another (t.outs phone) tag putting then Some (AnswerToAnother phone) else None

-- the segment of a text of a phone
abbrev pub used_again : Traces → ℕ → Part → Ground
used_again t phone part =
    ReferenceUsedAgain (record {
      phone = phone;
      text = unwrap_or (nth t.numbers part.text) 0;
      segment = part.segment;
    })

abbrev pub reference_ground : Traces → ℕ → ℕ → Bool → ℕ → Option ℕ → Option Part → Option Ground
reference_ground t now phone reject reference (Some recipient) (Some part) =
    if reject && is_other_held (t.held phone reference recipient) (Some part) now
    then Some (used_again t phone part)
    else None
reference_ground t now phone reject reference (Some recipient) None = None
reference_ground t now phone reject reference None part = None

abbrev pub seen_ground : Traces → ℕ → Bool → ℕ → Seen → Trace → Option Ground
seen_ground t now true phone (Submits reject reference recipient ends) trace =
    reference_ground t now phone reject reference recipient trace.segment
seen_ground t now false phone (Answers tag) trace = answer_ground t phone tag trace.putting
seen_ground t now true phone (Answers tag) trace = None
seen_ground t now false phone (Submits reject reference recipient ends) trace = None
seen_ground t now up phone Other trace = None

abbrev pub carried_ground : Traces → ℕ → Option Trace → Option Brought → Option Ground
carried_ground t now (Some trace) (Some b) = seen_ground t now b.up b.phone b.seen trace
carried_ground t now (Some trace) None = None
carried_ground t now None b = None

-- what the notes tell of an event
abbrev pub ground_at : Traces → ℕ → Event → Option Brought → Option Ground
ground_at t now (Carry k) b = carried_ground t now (trace_at t.sent k) b
ground_at t now (Inject place octets) b = Some Injected
ground_at t now (Compose phone target characters) b = None
ground_at t now (Timeout phone) b = None
ground_at t now (Push phone) b = None
ground_at t now (Tick seconds) b = None
