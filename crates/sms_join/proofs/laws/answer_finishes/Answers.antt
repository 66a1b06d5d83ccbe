use Rattle.sms_join.proofs.Finishing.{answer_finishes}
use Rattle.sms_join.proofs.laws.answer_finishes.Goals as goal

pub returns : goal.returns
returns c = answer_finishes
