use Rattle.sms_world.proofs.Unread.{unread_nothing}
use Rattle.sms_world.proofs.laws.unread_octets_change_nothing.Goals as goal

pub returns : goal.returns
returns c = unread_nothing c.octets_are_read_as_one_message.ensures
