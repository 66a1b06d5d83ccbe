use Rattle.sms_join.proofs.Recalled.{limits_recall}
use Rattle.sms_join.proofs.recipients.limits_recall.Goals as goal

pub returns : goal.returns
returns c = limits_recall
