-- A reader may pass this by: contracts of private functions, and proofs, alone cite it.
--
-- What is noted of packets and acceptances, as contracts see it.
use Rattle.std.specs.Prelude.{◌≡◌, ℕ, ◌+◌, ◌-◌, ◌^◌, ◌≤◌, ◌<◌, Bool, if◌then◌else◌, List, [], ◌∷◌, ◌++◌, length, map, option_to_list, Option, Some, None, slice_get}
use Rattle.std.specs.Map.{lookup}
use Rattle.std.specs.VecDeque.{deque_len, deque_capacity}
use Rattle.std.specs.Vec.{vec_len, vec_capacity}
use Rattle.indexmap.specs.IndexMap.{spare}
use Rattle.sms_world.specs.declared.traces.TraceNotes.{TraceNotes}
use Rattle.sms_world.specs.declared.notes.sender.SenderNotes.{SenderNotes}
use Rattle.sms_world.specs.Inside.NotesValue.{sender_note, sender_at, IsCounted}
use Rattle.sms_world.specs.Ledger.{Mark, Neither}
use Rattle.sms_world.specs.Machine.{Machine}
use Rattle.sms_world.specs.Machine.Event.{Event, Compose, Carry, Timeout, Push}
use Rattle.sms_world.specs.TraceTables.{key_eq, out_at, TraceTables}
use Rattle.sms_world.specs.Traces.{Brought, Traces, brought_at}
use Rattle.sms_world.specs.World.Standing.{StandsFor}
use Rattle.sms_world.specs.World.Value.{WorldValue}

-- the tables as functions
abbrev pub traces_in : TraceNotes → Traces
traces_in n =
    record {
      sent = n.sent.items;
      numbers = n.numbers.items;
      sender = λ phone. sender_at (slice_get n.senders.items phone);
      outs = λ phone. out_at (slice_get n.outs.items phone);
      held = λ phone reference recipient.
          lookup
          (key_eq (record { phone = phone; reference = reference; recipient = recipient }))
          n.held.entries;
    }

abbrev pub trace_tables_in : TraceNotes → TraceTables
trace_tables_in n =
    record {
      sent = n.sent.items;
      numbers = n.numbers.items;
      senders = map sender_note n.senders.items;
      outs = n.outs.items;
      held = n.held.entries;
    }

-- there is room for what an event at this phone can add
pub record HasTraceRoomAt (n : TraceNotes) (phone : ℕ) : Type 0 where
  pub sender_is : phone < length n.senders.items
  pub sent : deque_len n.sent + 2 ≤ deque_capacity n.sent
  pub numbers : deque_len n.numbers + 1 ≤ deque_capacity n.numbers
  pub held : 0 < spare n.held
  pub typed : (s : SenderNotes) → slice_get n.senders.items phone ≡ Some s
      → vec_len s.typed + 1 ≤ vec_capacity s.typed

-- what is brought is for this phone
abbrev pub IsBroughtFor : Option Brought → ℕ → Type 0
IsBroughtFor None phone = Unit {0}
IsBroughtFor (Some b) phone = b.phone ≡ phone

-- the event is for this phone
abbrev pub IsTraceFor : Event → Option Brought → ℕ → Type 0
IsTraceFor (Compose p target characters) b phone = p ≡ phone
IsTraceFor (Carry k) b phone = IsBroughtFor b phone
IsTraceFor (Timeout p) b phone = p ≡ phone
IsTraceFor (Push p) b phone = p ≡ phone
IsTraceFor _ b phone = Unit {0}

-- no more texts have ended than were typed, and what was accepted and put out can be counted
abbrev pub IsCountedAt : Traces → ℕ → Type 0
IsCountedAt t phone = IsCounted (t.sender phone) × (t.outs phone ≤ 2 ^ 64 - 1)

-- marks of what is put out at a call
abbrev pub called_with : Bool → Option Mark → List Mark
called_with neither next = (if neither then Neither ∷ [] else []) ++ option_to_list next

-- so it is in each state that the world stands for
abbrev pub IsBroughtBy : WorldValue → Event → Option Brought → Type 0
IsBroughtBy world event b = (m : Machine) → StandsFor world m → b ≡ brought_at m event
