use Rattle.std.proofs.Common.{rules}
use Rattle.sms_party.proofs.sender.Sender.count.Goals as goal

pub returns-then-is_out : goal.returns-then-is_out
returns-then-is_out c = search rules
