use Rattle.sms_join.proofs.OwnParts.{leaves_others}
use Rattle.sms_join.proofs.recipients.leaves_other_recipients.Goals as goal

pub returns : goal.returns
returns c = leaves_others
