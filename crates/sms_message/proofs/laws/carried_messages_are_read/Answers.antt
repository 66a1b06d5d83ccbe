use Rattle.sms_message.proofs.Carrying.{carried_is_read}
use Rattle.sms_message.proofs.laws.carried_messages_are_read.Goals as goal

pub returns : goal.returns
returns c = carried_is_read
