-- The tables of what is noted, as contracts see them, and what they say.
use Rattle.std.specs.Prelude.{ℕ, List, [], Option, Some, None, slice_get}
use Rattle.std.specs.Map.{lookup}
use Rattle.std.specs.Option.{option_map}
use Rattle.sms_world.specs.declared.notes.mark.Part.{Part}
use Rattle.sms_world.specs.declared.notes.mark.Stamped.{Stamped}
use Rattle.sms_world.specs.Ledger.{Mark, TextNote, SenderNote, ReceiverNote, Ledger}
use Rattle.sms_world.specs.NoteKeys.{part_eq, stamped_eq, origin_of_part}

-- of a receiver: the least stamp that is free, and its texts
pub record ReceiverRow : Type 0 where
  pub free : ℕ
  pub note : ReceiverNote

pub record Tables : Type 0 where
  pub marks : List Mark
  pub texts : List TextNote
  -- one row for each phone
  pub senders : List SenderNote
  pub receivers : List ReceiverRow
  pub ends : List (Part × ℕ)
  pub stamps : List (Stamped × Part)

abbrev pub sender_in_row : Option SenderNote → SenderNote
sender_in_row None = record { typed = []; ended = 0; accepted = 0 }
sender_in_row (Some s) = s

abbrev pub free_in_row : Option ReceiverRow → ℕ
free_in_row None = 0
free_in_row (Some r) = r.free

abbrev pub receiver_in_row : Option ReceiverRow → ReceiverNote
receiver_in_row None = record { finished = []; opened = [] }
receiver_in_row (Some r) = r.note

-- what they say
abbrev pub ledger_of : Tables → Ledger
ledger_of t =
    record {
      marks = t.marks;
      texts = t.texts;
      sender = λ phone. sender_in_row (slice_get t.senders phone);
      ends = λ o. lookup (part_eq (record { text = o.text; segment = o.segment })) t.ends;
      stamped = λ recipient stamp.
          option_map origin_of_part
          (lookup (stamped_eq (record { recipient = recipient; stamp = stamp })) t.stamps);
      free = λ recipient. free_in_row (slice_get t.receivers recipient);
      receiver = λ phone. receiver_in_row (slice_get t.receivers phone);
    }
