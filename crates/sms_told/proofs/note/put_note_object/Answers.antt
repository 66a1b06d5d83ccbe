use Rattle.sms_told.specs.Notes.{note_object}
use Rattle.sms_told.proofs.Composed.{Puts-object, Writes-then}
use Rattle.sms_told.proofs.note.put_note_object.Goals as goal

pub returns : goal.returns
returns c = Puts-object (note_object c.args.number c.args.told.now) c.take.ensures.taken c.new-object.ensures
    (Writes-then _ _ (Writes-then _ _ (Writes-then _ _ c.open.ensures c.number_named.ensures) c.text_named.ensures) c.close.ensures) c.into_line.ensures
