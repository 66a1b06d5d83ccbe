use Rattle.sms_join.proofs.OwnParts.{holds_each}
use Rattle.sms_join.proofs.recipients.holds_each_recipient.Goals as goal

pub returns : goal.returns
returns c = holds_each
