use Rattle.sms_message.proofs.OneMessage.{one_message_is_read}
use Rattle.sms_message.proofs.laws.octets_are_read_as_one_message.Goals as goal

pub returns : goal.returns
returns c = one_message_is_read
