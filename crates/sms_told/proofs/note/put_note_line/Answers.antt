use Rattle.sms_told.proofs.Composed.{Puts-then, Puts-same}
use Rattle.sms_told.proofs.note.put_note_line.Goals as goal

pub returns : goal.returns
returns c = Puts-then _ _ (Puts-then _ _ (Puts-then _ _ (Puts-then _ _ c.put.ensures c.put_decimal.ensures) c.put-2.ensures) (Puts-same c.as_bytes.ensures.value c.put-3.ensures)) c.put_one.ensures
