use Rattle.std.proofs.Common.{rules}
use Rattle.sms_message.proofs.packets.acknowledgement_in.Goals as goal

pub returns-clause-carries : goal.returns-clause-carries
returns-clause-carries c = search rules
