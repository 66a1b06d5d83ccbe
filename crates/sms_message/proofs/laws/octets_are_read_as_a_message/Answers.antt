use Rattle.sms_message.proofs.EachMessage.{each_is_read}
use Rattle.sms_message.proofs.laws.octets_are_read_as_a_message.Goals as goal

pub returns : goal.returns
returns c = each_is_read
