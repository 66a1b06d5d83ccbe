use Rattle.sms_join.proofs.Completion.{completed_are_whole}
use Rattle.sms_join.proofs.laws.completed_texts_are_whole.Goals as goal

pub returns : goal.returns
returns c = completed_are_whole
