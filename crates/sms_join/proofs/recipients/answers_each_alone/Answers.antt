use Rattle.sms_join.proofs.Recalled.{answers_recalled}
use Rattle.sms_join.proofs.recipients.answers_each_alone.Goals as goal

pub returns : goal.returns
returns c = answers_recalled
