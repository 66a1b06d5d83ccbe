use Rattle.sms_join.proofs.OwnParts.{answers_each}
use Rattle.sms_join.proofs.recipients.answers_each_recipient.Goals as goal

pub returns : goal.returns
returns c = answers_each
