-- A reader may pass this by: contracts of private functions, and proofs, alone cite it.
use Rattle.std.specs.Prelude.{map}
use Rattle.sms_world.specs.declared.notes.Notes.{Notes}
use Rattle.sms_world.specs.declared.notes.receiver.ReceiverNotes.{ReceiverNotes}
use Rattle.sms_world.specs.Inside.NotesValue.{sender_note, receiver_note}
use Rattle.sms_world.specs.Tables.{ReceiverRow, Tables}

abbrev pub row_of : ReceiverNotes → ReceiverRow
row_of r = record { free = r.free; note = receiver_note r }

abbrev pub tables_in : Notes → Tables
tables_in n =
    record {
      marks = n.marks.items;
      texts = n.texts.items;
      senders = map sender_note n.senders.items;
      receivers = map row_of n.receivers.items;
      ends = n.ends.entries;
      stamps = n.stamps.entries;
    }
