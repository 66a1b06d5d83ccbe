use Rattle.std.proofs.Common.{rules}
use Rattle.sms_message.proofs.packets.address_of_centre.Goals as goal

pub returns : goal.returns
returns c = search rules
