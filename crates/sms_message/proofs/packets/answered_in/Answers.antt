use Rattle.std.proofs.Common.{rules}
use Rattle.sms_message.proofs.packets.answered_in.Goals as goal

pub returns : goal.returns
returns c = search rules
