use Rattle.sms_encode.proofs.Composed.{Puts-then}
use Rattle.sms_encode.proofs.lines.put_line.Goals as goal

pub returns : goal.returns
returns c = Puts-then _ _ (Puts-then _ _ (Puts-then _ _ c.put_count.ensures c.put_digits.ensures) c.put_digits-2.ensures) c.put.ensures
