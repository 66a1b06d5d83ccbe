-- What is noted while a world runs, of its events and what they answer, so that it can be told of
-- each event whether it comes in order: and what it means that the notes are right. Lists have the
-- newest entry first.
use Rattle.std.specs.Prelude.{◌≡◌, ℕ, zero, suc, ◌+◌, ◌<◌, ◌≤◌, Bool, true, false, not, ◌&&◌, ◌||◌, ◌==◌, if◌then◌else◌, nat_lt, List, [], ◌∷◌, ◌++◌, length, drop, map, take, Option, Some, None, Ok}
use Rattle.std.specs.List.{list_any, filter}
use Rattle.sms_field.specs.Address.Value.{AddressValue}
use Rattle.sms_tpdu.specs.Submit.{Submission}
use Rattle.sms_join.specs.Arrivals.{Arrival, has_text, is_done, completed, is_listed}
use Rattle.sms_relay.specs.declared.side.Side.TheVariants.{FromPhone, ToPhone}
use Rattle.sms_message.specs.declared.message.TransferUnit.{TransferUnit}
use Rattle.sms_message.specs.declared.message.TransferUnit.TheVariants.{Submit, Deliver, OtherUnit, BadUnit}
use Rattle.sms_message.specs.declared.message.Relay.{Relay}
use Rattle.sms_message.specs.declared.message.Relay.TheVariants.{Transfer, Answer, UnknownType, Unreadable}
use Rattle.sms_message.specs.declared.message.Message.{Message}
use Rattle.sms_message.specs.declared.message.Message.TheVariants.{NotCp, Note, Tiny, Data}
use Rattle.sms_message.specs.declared.outcome.Outcome.TheVariants.{Typed, Segment, Accepted, Failed, Repeated, GaveUp, Finished, Kept, Repeat}
use Rattle.sms_message.specs.Address.{phone_at}
use Rattle.sms_message.specs.Message.{Origin}
use Rattle.sms_centre.specs.Centre.State.{Acceptance}
use Rattle.sms_centre.specs.Centre.Held.{next_stamp}
use Rattle.sms_party.specs.Sent.{nth, Place, Centre, Phone, Sent}
use Rattle.sms_party.specs.Sender.Texts.{Text, Sender}
use Rattle.sms_party.specs.Receiver.State.{ReceiverState}
pub use Rattle.sms_world.specs.declared.notes.mark.Mark.{Mark}
pub use Rattle.sms_world.specs.declared.notes.mark.Mark.TheVariants.{Submits, Delivers, Neither}
pub use Rattle.sms_world.specs.declared.notes.mark.TextNote.{TextNote}
use Rattle.sms_world.specs.Told.{Told}
use Rattle.sms_world.specs.Machine.{Machine}
use Rattle.sms_world.specs.Machine.Event.{Event, Compose, Carry, Timeout, Push, Tick, Inject}
use Rattle.sms_world.specs.Texts.{size_in}
use Rattle.sms_world.specs.Texts.Keys.{is_from}

-- ---- packets

abbrev pub submission_mark : Submission → Place → Option Origin → Mark
submission_mark s (Centre phone) (Some o) = Submits o.text o.segment s.reject
submission_mark s (Centre phone) None = Neither
submission_mark s (Phone phone) origin = Neither

abbrev pub delivery_mark : Place → Option Origin → Mark
delivery_mark (Phone phone) (Some o) = Delivers phone o.text o.segment
delivery_mark (Phone phone) None = Neither
delivery_mark (Centre phone) origin = Neither

abbrev pub up_mark : TransferUnit → Place → Option Origin → Mark
up_mark (Submit s) to origin = submission_mark s to origin
up_mark (Deliver d) to origin = Neither
up_mark OtherUnit to origin = Neither
up_mark BadUnit to origin = Neither

abbrev pub down_mark : TransferUnit → Place → Option Origin → Mark
down_mark (Deliver d) to origin = delivery_mark to origin
down_mark (Submit s) to origin = Neither
down_mark OtherUnit to origin = Neither
down_mark BadUnit to origin = Neither

abbrev pub relay_mark : Relay → Place → Option Origin → Mark
relay_mark (Transfer FromPhone unit) to origin = up_mark unit to origin
relay_mark (Transfer ToPhone unit) to origin = down_mark unit to origin
relay_mark (Answer side cause report) to origin = Neither
relay_mark UnknownType to origin = Neither
relay_mark Unreadable to origin = Neither

abbrev pub message_mark : Message → Place → Option Origin → Mark
message_mark (Data false tag relay) to origin = relay_mark relay to origin
message_mark (Data true tag relay) to origin = Neither
message_mark NotCp to origin = Neither
message_mark (Note flag value) to origin = Neither
message_mark (Tiny flag value) to origin = Neither

abbrev pub mark_of : Sent → Mark
mark_of x = message_mark x.message x.to x.origin

-- ---- texts

abbrev pub note_of : List AddressValue → Text → TextNote
note_of phones t =
    record {
      phone = t.phone;
      number = t.number;
      recipient = phone_at phones t.target;
      size = length t.pieces;
      reference = t.set_reference;
    }

-- ---- a sender

-- its texts, the first typed first; how many have ended; how many segments of the next were
-- accepted
pub record SenderNote : Type 0 where
  pub typed : List ℕ
  pub ended : ℕ
  pub accepted : ℕ

pub record SenderNoted (s : Sender) (note : SenderNote) : Type 0 where
  pub pending : s.pending ≡ drop note.ended note.typed
  pub some : note.ended ≤ length note.typed
  pub accepted : s.accepted ≡ note.accepted

-- after a call of the sender that was answered so; a text that was typed has this number
abbrev pub called : ℕ → SenderNote → Told → SenderNote
called n note (Ok (Typed number)) =
    record { typed = note.typed ++ n ∷ []; ended = note.ended; accepted = note.accepted }
called n note (Ok (Segment number segment)) =
    record { typed = note.typed; ended = note.ended; accepted = segment }
called n note (Ok (Accepted number)) =
    record { typed = note.typed; ended = suc note.ended; accepted = 0 }
called n note (Ok (Failed number cause failure)) =
    record { typed = note.typed; ended = suc note.ended; accepted = 0 }
called n note (Ok (GaveUp number)) =
    record { typed = note.typed; ended = suc note.ended; accepted = 0 }
called n note _ = note

-- what is put out where these texts wait: the next segment of the first
abbrev pub waiting_mark : SenderNote → Bool → List ℕ → List Mark
waiting_mark note reject [] = []
waiting_mark note reject (n ∷ later) = Submits n (suc note.accepted) reject ∷ []

-- where one waits alone
abbrev pub alone_mark : SenderNote → Bool → List ℕ → List Mark
alone_mark note reject [] = []
alone_mark note reject (n ∷ []) = Submits n (suc note.accepted) reject ∷ []
alone_mark note reject (n ∷ k ∷ later) = []

-- the marks of what a sender has put out at a call that was answered so, the first first
abbrev pub called_marks : SenderNote → Bool → Told → List Mark
called_marks note reject (Ok (Typed number)) =
    alone_mark note reject (drop note.ended note.typed)
called_marks note reject (Ok (Repeated number)) =
    waiting_mark note true (drop note.ended note.typed)
called_marks note reject (Ok (GaveUp number)) =
    waiting_mark note reject (drop note.ended note.typed)
called_marks note reject (Ok (Segment number segment)) =
    Neither ∷ waiting_mark note reject (drop note.ended note.typed)
called_marks note reject (Ok (Accepted number)) =
    Neither ∷ waiting_mark note reject (drop note.ended note.typed)
called_marks note reject (Ok (Failed number cause failure)) =
    Neither ∷ waiting_mark note reject (drop note.ended note.typed)
called_marks note reject _ = []

-- ---- the centre

-- the end of the validity of this segment, if it was accepted
abbrev pub ends_given : List Acceptance → Origin → Option ℕ
ends_given [] o = None
ends_given (a ∷ past) o = if is_from a.origin o then Some a.ends else ends_given past o

-- the segment that was accepted for a recipient with a stamp
abbrev pub stamped_so : List Acceptance → ℕ → ℕ → Option Origin
stamped_so [] recipient stamp = None
stamped_so (a ∷ past) recipient stamp =
    if a.recipient == recipient && a.stamp == stamp
    then a.origin
    else stamped_so past recipient stamp

-- ---- a receiver

-- the moment of the first arrival of the text
abbrev pub first_come : List Arrival → ℕ → Option ℕ
first_come [] n = None
first_come (a ∷ past) n =
    if has_text past n
    then first_come past n
    else (if a.text == n then Some a.piece.moment else None)

-- seven days
abbrev pub week : ℕ
week = 604800

-- Texts, each with the moment at which its set was opened: it is open for a week.
abbrev pub has_entry : List (ℕ × ℕ) → ℕ → ℕ → Bool
has_entry [] n since = false
has_entry (e ∷ es) n since = (e.0 == n && e.1 == since) || has_entry es n since

abbrev pub is_live : ℕ → List (ℕ × ℕ) → ℕ → Bool
is_live now es n = list_any (λ e. e.0 == n && nat_lt now (e.1 + week)) es

-- those that are still open
abbrev pub pruned : ℕ → List (ℕ × ℕ) → List (ℕ × ℕ)
pruned now es = filter (λ e. nat_lt now (e.1 + week)) es

-- those of other texts
abbrev pub without_text : List (ℕ × ℕ) → ℕ → List (ℕ × ℕ)
without_text es n = filter (λ e. not (e.0 == n)) es

pub record ReceiverNote : Type 0 where
  -- the texts that have finished, the last one first
  pub finished : List ℕ
  -- those that may be open
  pub opened : List (ℕ × ℕ)

-- the entries that are still open are of the open texts, each with the moment of its first arrival
pub record AreOpened (size : ℕ → ℕ) (now : ℕ) (taken : List Arrival)
    (entries : List (ℕ × ℕ)) : Type 0 where
  pub is_open : (n since : ℕ) → has_entry entries n since ≡ true → now < since + week
      → (first_come taken n ≡ Some since) × (is_done size taken n ≡ false)
  pub has_each : (n since : ℕ) → first_come taken n ≡ Some since → is_done size taken n ≡ false
      → (has_entry entries n since ≡ true) × (now < since + week)

pub record ReceiverNoted (size : ℕ → ℕ) (now : ℕ) (r : ReceiverState)
    (note : ReceiverNote) : Type 0 where
  pub finished : note.finished ≡ completed size r.taken
  pub opened : AreOpened size now r.taken note.opened

-- a segment of the text was taken, and completed no text
abbrev pub opens : ℕ → ReceiverNote → ℕ → ReceiverNote
opens now note n =
    if is_listed note.finished n || is_live now note.opened n
    then note
    else record { finished = note.finished; opened = (n, now) ∷ pruned now note.opened }

-- it completed its text
abbrev pub finishes : ReceiverNote → ℕ → ReceiverNote
finishes note n =
    record { finished = n ∷ note.finished; opened = without_text note.opened n }

-- what was answered when a segment of the text came
abbrev pub heard : ℕ → ReceiverNote → ℕ → Told → ReceiverNote
heard now note n (Ok Finished) = finishes note n
heard now note n (Ok Kept) = opens now note n
heard now note n (Ok Repeat) = opens now note n
heard now note n _ = note

-- ---- the tests

-- the segment may come once more
abbrev pub may_repeat : Option ℕ → ℕ → Bool → Bool
may_repeat None now reject = true
may_repeat (Some ends) now reject = reject && nat_lt now ends

-- the text has not finished, or is among the last
abbrev pub is_in_mind : ℕ → List ℕ → ℕ → Bool
is_in_mind remembered finished n =
    not (is_listed finished n) || is_listed (take remembered finished) n

abbrev pub same_set : Option TextNote → Option TextNote → Bool
same_set (Some u) (Some t) =
    u.phone == t.phone && (u.reference == t.reference && (u.size == t.size && nat_lt 1 t.size))
same_set _ _ = false

-- another text with the key of this one is among these
abbrev pub another_finished : List TextNote → ℕ → List ℕ → Bool
another_finished texts n us =
    list_any (λ u. not (u == n) && same_set (nth texts u) (nth texts n)) us

abbrev pub another_open : List TextNote → ℕ → ℕ → List (ℕ × ℕ) → Bool
another_open texts now n es =
    list_any
    (λ e.
    not (e.0 == n) && (nat_lt now (e.1 + week) && same_set (nth texts e.0) (nth texts n)))
    es

abbrev pub is_key_in_use : List TextNote → ℕ → ℕ → ReceiverNote → ℕ → Bool
is_key_in_use texts remembered now note n =
    another_finished texts n (take remembered note.finished)
    || another_open texts now n note.opened

-- ---- all of it

pub record Ledger : Type 0 where
  pub marks : List Mark
  pub texts : List TextNote
  pub sender : ℕ → SenderNote
  pub ends : Origin → Option ℕ
  pub stamped : ℕ → ℕ → Option Origin
  -- of each recipient, the least stamp that is still free
  pub free : ℕ → ℕ
  pub receiver : ℕ → ReceiverNote

-- nothing is noted
abbrev pub new_ledger : Ledger
new_ledger =
    record {
      marks = [];
      texts = [];
      sender = λ phone. record { typed = []; ended = 0; accepted = 0 };
      ends = λ o. None;
      stamped = λ recipient stamp. None;
      free = λ recipient. 0;
      receiver = λ phone. record { finished = []; opened = [] };
    }

-- They say the same.
pub record AreAlike (l k : Ledger) : Type 0 where
  pub marks : k.marks ≡ l.marks
  pub texts : k.texts ≡ l.texts
  pub sender : (phone : ℕ) → k.sender phone ≡ l.sender phone
  pub ends : (o : Origin) → k.ends o ≡ l.ends o
  pub stamped : (recipient stamp : ℕ) → k.stamped recipient stamp ≡ l.stamped recipient stamp
  pub free : (recipient : ℕ) → k.free recipient ≡ l.free recipient
  pub receiver : (phone : ℕ) → k.receiver phone ≡ l.receiver phone

-- Whether a packet with this mark comes in order.
abbrev pub mark_in_order : Ledger → ℕ → ℕ → Mark → Bool
mark_in_order l remembered now (Submits text segment reject) =
    may_repeat (l.ends (record { text = text; segment = segment })) now reject
mark_in_order l remembered now (Delivers phone text segment) =
    not (is_key_in_use l.texts remembered now (l.receiver phone) text)
    && is_in_mind remembered (l.receiver phone).finished text
mark_in_order l remembered now Neither = true

abbrev pub marked_in_order : Ledger → ℕ → ℕ → Option Mark → Bool
marked_in_order l remembered now None = true
marked_in_order l remembered now (Some mark) = mark_in_order l remembered now mark

-- the mark of the packet of this number, counted from 1
abbrev pub mark_at : List Mark → ℕ → Option Mark
mark_at marks zero = None
mark_at marks (suc k) = nth marks k

unfoldable pub noted_in_order : Ledger → ℕ → ℕ → Event → Bool
noted_in_order l remembered now (Carry k) = marked_in_order l remembered now (mark_at l.marks k)
noted_in_order l remembered now (Inject place octets) = false
noted_in_order l remembered now (Compose phone target characters) = true
noted_in_order l remembered now (Timeout phone) = true
noted_in_order l remembered now (Push phone) = true
noted_in_order l remembered now (Tick seconds) = true

-- The notes are right, of this state of the machine.
pub record IsLedgerOf (l : Ledger) (m : Machine) : Type 0 where
  pub marks : l.marks ≡ map mark_of m.sent
  pub texts : l.texts ≡ map (note_of m.phones) m.senders.texts
  pub senders : (phone : ℕ) → SenderNoted (m.senders.sender phone) (l.sender phone)
  pub ends : (o : Origin) → l.ends o ≡ ends_given m.centre.accepted o
  pub stamped : (recipient stamp : ℕ)
      → l.stamped recipient stamp ≡ stamped_so m.centre.accepted recipient stamp
  pub free : (recipient : ℕ) → l.free recipient ≡ next_stamp m.centre.accepted recipient 0
  pub receivers : (phone : ℕ)
      → ReceiverNoted (size_in m.senders.texts) m.clock (m.receiver phone) (l.receiver phone)
