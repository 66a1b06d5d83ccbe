-- A reader may pass this by: contracts of private functions, and proofs, alone cite it.
--
-- What is noted, as contracts see it.
use Rattle.std.specs.Prelude.{◌≡◌, ℕ, ◌+◌, ◌-◌, ◌^◌, ◌≤◌, ◌<◌, Bool, true, false, List, [], length, Option, Some, None, Ok, slice_get}
use Rattle.std.specs.Map.{lookup}
use Rattle.std.specs.VecDeque.{deque_len, deque_capacity}
use Rattle.std.specs.Option.{option_map}
use Rattle.sms_message.specs.declared.outcome.Outcome.{Outcome}
use Rattle.sms_message.specs.declared.outcome.Outcome.TheVariants.{Accepted, Failed, GaveUp}
use Rattle.sms_join.specs.UnitsOfText.{IsText}
use Rattle.sms_party.specs.Sent.{nth}
use Rattle.sms_world.specs.contracts.notes.mark.StampedPartialEq.TheImpl as stamped
use Rattle.sms_world.specs.declared.notes.receiver.ReceiverNotes.{ReceiverNotes}
use Rattle.sms_world.specs.declared.notes.sender.SenderNotes.{SenderNotes}
use Rattle.sms_world.specs.declared.notes.Notes.{Notes}
use Rattle.sms_world.specs.declared.notes.mark.Facts.{Facts as TheFacts}
use Rattle.sms_world.specs.Ledger.{Mark, Delivers, mark_at, TextNote, SenderNote, ReceiverNote, called, Ledger}
use Rattle.sms_world.specs.Machine.Event.{Event, Compose, Carry, Timeout, Push}
use Rattle.sms_world.specs.Noted.{recipient_of, Facts}
use Rattle.sms_world.specs.World.Parties.{place_at}
use Rattle.sms_world.specs.World.Value.{WorldValue}
use Rattle.indexmap.specs.IndexMap.{spare}
use Rattle.std.specs.Vec.{vec_len, vec_capacity}
use Rattle.sms_world.specs.NoteKeys.{part_eq, stamped_eq, origin_of_part}

abbrev pub receiver_note : ReceiverNotes → ReceiverNote
receiver_note r = record { finished = r.finished.items; opened = r.opened.items }

abbrev pub sender_note : SenderNotes → SenderNote
sender_note s = record { typed = s.typed.items; ended = s.ended; accepted = s.accepted }

-- there is room for one entry more of each kind
abbrev pub HasRoom : ReceiverNotes → Type 0
HasRoom r =
    (deque_len r.finished + 1 ≤ deque_capacity r.finished)
    × (deque_len r.opened + 1 ≤ deque_capacity r.opened)

-- there is room for what an event at this phone can add
pub record HasRoomAt (n : Notes) (phone : ℕ) : Type 0 where
  pub sender_is : phone < length n.senders.items
  pub receiver_is : phone < length n.receivers.items
  pub marks : deque_len n.marks + 2 ≤ deque_capacity n.marks
  pub texts : deque_len n.texts + 1 ≤ deque_capacity n.texts
  pub ends : 0 < spare n.ends
  pub stamps : 0 < spare n.stamps
  pub typed : (s : SenderNotes) → slice_get n.senders.items phone ≡ Some s
      → vec_len s.typed + 1 ≤ vec_capacity s.typed
  pub heard : (r : ReceiverNotes) → slice_get n.receivers.items phone ≡ Some r → HasRoom r

-- after such an answer a text has ended
abbrev pub is_ending : Outcome → Bool
is_ending (Accepted number) = true
is_ending (Failed number cause failure) = true
is_ending (GaveUp number) = true
is_ending _ = false

-- such an answer can come: a text waits, where one ends, and its segments can be counted
abbrev pub MayCome : SenderNotes → Outcome → Type 0
MayCome s outcome =
    (is_ending outcome ≡ true → s.ended < length s.typed.items)
    × ((called 0 (sender_note s) (Ok outcome)).accepted < 2 ^ 64 - 1)

-- the text whose segments are put out
abbrev pub first_waiting : SenderNote → Option ℕ
first_waiting note = slice_get note.typed note.ended

-- the text of this number, from the oldest on
abbrev pub text_at : List TextNote → ℕ → Option TextNote
text_at texts n = nth texts n

abbrev pub sender_at : Option SenderNotes → SenderNote
sender_at None = record { typed = []; ended = 0; accepted = 0 }
sender_at (Some s) = sender_note s

abbrev pub receiver_at : Option ReceiverNotes → ReceiverNote
receiver_at None = record { finished = []; opened = [] }
receiver_at (Some r) = receiver_note r

abbrev pub free_at : Option ReceiverNotes → ℕ
free_at None = 0
free_at (Some r) = r.free

-- each recipient is one of the phones, and stamps are left for it
pub record MayHold (n : Notes) : Type 0 where
  pub recipients : (t r : ℕ) → recipient_of (nth n.texts.items t) ≡ Some r
      → r < length n.receivers.items
  pub free : (r : ℕ) → free_at (slice_get n.receivers.items r) < 2 ^ 64 - 1

-- no more texts have ended than were typed, and accepted segments can be counted
abbrev pub IsCounted : SenderNote → Type 0
IsCounted note = (note.ended ≤ length note.typed) × (note.accepted < 2 ^ 64 - 1)

-- a delivery with this mark is to this phone
abbrev pub IsMarkFor : Option Mark → ℕ → Type 0
IsMarkFor (Some (Delivers to text segment)) phone = to ≡ phone
IsMarkFor _ phone = Unit {0}

-- the event is for this phone
abbrev pub IsFor : Ledger → Event → ℕ → Type 0
IsFor l (Compose p target characters) phone = p ≡ phone
IsFor l (Carry k) phone = IsMarkFor (mark_at l.marks k) phone
IsFor l (Timeout p) phone = p ≡ phone
IsFor l (Push p) phone = p ≡ phone
IsFor l _ phone = Unit {0}

-- where a text is typed, it is a text
abbrev pub IsOfText : Event → Type 0
IsOfText (Compose phone target characters) = IsText characters
IsOfText _ = Unit {0}

-- what is told after an event, as the definitions have it
abbrev pub facts_of : TheFacts → Facts
facts_of f =
    record { put = f.put; text = f.text; stamp = f.stamp; to = place_at f.up f.phone }

-- there is a row for each phone of the world
pub record AreRowsOf (n : Notes) (world : WorldValue) : Type 0 where
  pub senders : length n.senders.items ≡ length world.parties.phones
  pub receivers : length n.receivers.items ≡ length world.parties.phones

-- the tables as functions
abbrev pub ledger_in : Notes → Ledger
ledger_in n =
    record {
      marks = n.marks.items;
      texts = n.texts.items;
      sender = λ phone. sender_at (slice_get n.senders.items phone);
      ends = λ o.
          lookup (part_eq (record { text = o.text; segment = o.segment })) n.ends.entries;
      stamped = λ recipient stamp.
          option_map origin_of_part
          (lookup (stamped_eq (record { recipient = recipient; stamp = stamp })) n.stamps.entries);
      free = λ recipient. free_at (slice_get n.receivers.items recipient);
      receiver = λ phone. receiver_at (slice_get n.receivers.items phone);
    }
