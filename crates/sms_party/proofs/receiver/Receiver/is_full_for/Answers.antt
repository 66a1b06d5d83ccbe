use Rattle.std.proofs.Common.{rules}
use Rattle.sms_party.proofs.receiver.Receiver.is_full_for.Goals as goal

pub returns-then-len-self : goal.returns-then-len-self
returns-then-len-self c = search rules
