use Rattle.sms_world.proofs.Unread.{nothing_said}
use Rattle.sms_world.proofs.laws.unread_units_change_no_party.Goals as goal

pub returns : goal.returns
returns c = nothing_said c.octets_are_read_as_one_message.ensures
