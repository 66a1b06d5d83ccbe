use Rattle.sms_told.proofs.Composed.{Puts-then}
use Rattle.sms_told.proofs.set_parts.put_behind_blank.Goals as goal

pub returns : goal.returns
returns c = Puts-then _ _ c.put_one.ensures c.put_decimal.ensures
