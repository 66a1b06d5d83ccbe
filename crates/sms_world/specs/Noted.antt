-- What is noted of an event and its answer; and that the notes stay right.
use Rattle.std.specs.Prelude.{◌≡◌, ℕ, zero, suc, ◌+◌, max, Bool, true, false, ◌&&◌, ◌==◌, if◌then◌else◌, List, [], ◌∷◌, length, Option, Some, None, Ok}
use Rattle.sms_field.specs.Address.Value.{AddressValue}
use Rattle.sms_message.specs.declared.outcome.Outcome.TheVariants.{Typed, Held, Pushed}
use Rattle.sms_message.specs.Address.{are_distinct}
use Rattle.sms_message.specs.Changed.{changed}
use Rattle.sms_message.specs.Message.{Origin}
use Rattle.sms_centre.specs.Centre.State.{Pushing}
use Rattle.sms_party.specs.Sent.{nth, Place, Centre, Phone, Sent}
use Rattle.sms_party.specs.Sender.Texts.{Text}
use Rattle.sms_script.specs.declared.script.limits.Limits.{Limits}
use Rattle.sms_world.specs.Told.{Told}
use Rattle.sms_world.specs.Machine.{Machine, start}
use Rattle.sms_world.specs.Machine.Event.{Event, Compose, Carry, Timeout, Push, Tick, Inject}
use Rattle.sms_world.specs.Machine.Next.{entered, packet}
use Rattle.sms_world.specs.Machine.Step.{Step}
use Rattle.sms_world.specs.Orderly.{IsOrderly, OrderlyRun}
use Rattle.sms_world.specs.Ledger.{Mark, Submits, Delivers, Neither, mark_at, TextNote, note_of, called, called_marks, heard, Ledger, IsLedgerOf}

-- What a world tells after an event, beside its answer.
pub record Facts : Type 0 where
  -- how many packets were put out
  pub put : ℕ
  -- the text, where one was typed
  pub text : TextNote
  -- the stamp of what was pushed, where something was
  pub stamp : ℕ
  -- where the packet of the event goes
  pub to : Place

pub record AreFacts (m : Machine) (event : Event) (told : Told) (put : List Sent) (n : Machine)
    (f : Facts) : Type 0 where
  pub as_many : f.put ≡ length put
  pub text_is : (phone : ℕ) (target : AddressValue) (characters : List ℕ) (number : ℕ) (t : Text)
      (before : List Text) → event ≡ Compose phone target characters → told ≡ Ok (Typed number)
      → n.senders.texts ≡ t ∷ before → f.text ≡ note_of n.phones t
  pub stamp_is : (phone : ℕ) (p : Pushing) → event ≡ Push phone → told ≡ Ok Pushed
      → (n.centre.line phone).latest ≡ Some p → f.stamp ≡ p.message.stamp
  pub goes : (k : ℕ) (x : Sent) → event ≡ Carry k → packet m k ≡ Some x → f.to ≡ x.to

-- as many packets that bring neither
abbrev pub neithers : ℕ → List Mark
neithers zero = []
neithers (suc n) = Neither ∷ neithers n

abbrev pub with_marks : Ledger → List Mark → Ledger
with_marks l marks =
    record {
      marks = entered marks l.marks;
      texts = l.texts;
      sender = l.sender;
      ends = l.ends;
      stamped = l.stamped;
      free = l.free;
      receiver = l.receiver;
    }

-- ---- a sender was called

abbrev pub texts_after : List TextNote → TextNote → Told → List TextNote
texts_after texts text (Ok (Typed number)) = text ∷ texts
texts_after texts text _ = texts

abbrev pub sender_noted : Ledger → Bool → ℕ → TextNote → Told → Ledger
sender_noted l reject phone text told =
    record {
      marks =
          entered
          (called_marks (called (length l.texts) (l.sender phone) told) reject told)
          l.marks;
      texts = texts_after l.texts text told;
      sender = changed l.sender phone (called (length l.texts) (l.sender phone) told);
      ends = l.ends;
      stamped = l.stamped;
      free = l.free;
      receiver = l.receiver;
    }

-- ---- a submission came

abbrev pub recipient_of : Option TextNote → Option ℕ
recipient_of None = None
recipient_of (Some t) = t.recipient

-- It was accepted for this recipient, without a validity period: for two days.
abbrev pub holds : Ledger → ℕ → Origin → Option ℕ → Ledger
holds l now o None = l
holds l now o (Some r) =
    record {
      marks = l.marks;
      texts = l.texts;
      sender = l.sender;
      ends = λ p.
          if o.text == p.text && o.segment == p.segment then Some (now + 172800) else l.ends p;
      stamped = λ q x.
          if r == q && max (l.free r) now == x then Some o else l.stamped q x;
      free = λ q. if q == r then suc (max (l.free r) now) else l.free q;
      receiver = l.receiver;
    }

abbrev pub submission_noted : Ledger → ℕ → Origin → Told → Ledger
submission_noted l now o (Ok Held) = holds l now o (recipient_of (nth l.texts o.text))
submission_noted l now o _ = l

-- ---- a delivery came

abbrev pub delivery_noted : Ledger → ℕ → ℕ → ℕ → Told → Ledger
delivery_noted l now phone text told =
    record {
      marks = l.marks;
      texts = l.texts;
      sender = l.sender;
      ends = l.ends;
      stamped = l.stamped;
      free = l.free;
      receiver = changed l.receiver phone (heard now (l.receiver phone) text told);
    }

-- ---- a push

abbrev pub push_mark : ℕ → Option Origin → Mark
push_mark phone None = Neither
push_mark phone (Some o) = Delivers phone o.text o.segment

abbrev pub push_noted : Ledger → ℕ → ℕ → Told → Ledger
push_noted l phone stamp (Ok Pushed) =
    with_marks l (push_mark phone (l.stamped phone stamp) ∷ [])
push_noted l phone stamp _ = l

-- ---- an event

abbrev pub other_noted : Ledger → Bool → Facts → Told → Place → Ledger
other_noted l reject f told (Centre phone) = with_marks l (neithers f.put)
other_noted l reject f told (Phone phone) = sender_noted l reject phone f.text told

abbrev pub carry_noted : Ledger → Bool → ℕ → Facts → Told → Option Mark → Ledger
carry_noted l reject now f told None = l
carry_noted l reject now f told (Some (Submits text segment again)) =
    with_marks (submission_noted l now (record { text = text; segment = segment }) told)
    (neithers f.put)
carry_noted l reject now f told (Some (Delivers phone text segment)) =
    with_marks (delivery_noted l now phone text told) (neithers f.put)
carry_noted l reject now f told (Some Neither) = other_noted l reject f told f.to

unfoldable pub noted : Ledger → Bool → ℕ → Event → Told → Facts → Ledger
noted l reject now (Compose phone target characters) told f =
    sender_noted l reject phone f.text told
noted l reject now (Timeout phone) told f = sender_noted l reject phone f.text told
noted l reject now (Carry k) told f = carry_noted l reject now f told (mark_at l.marks k)
noted l reject now (Push phone) told f = push_noted l phone f.stamp told
noted l reject now (Tick seconds) told f = l
noted l reject now (Inject place octets) told f = l

-- At each event that comes in order in an orderly run of phones with different addresses, right
-- notes stay right.
abbrev pub NotesStayRight : Type 0
NotesStayRight =
    (limits : Limits) (phones : List AddressValue) (past : List (Event × Told)) (m : Machine)
    → are_distinct phones ≡ true → OrderlyRun (start limits phones) past m
    → (l : Ledger) → IsLedgerOf l m
    → (event : Event) → IsOrderly m event
    → (told : Told) (put : List Sent) (n : Machine) → Step m event told put n
    → (f : Facts) → AreFacts m event told put n f
    → IsLedgerOf (noted l m.senders.reject m.clock event told f) n
