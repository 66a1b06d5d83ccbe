use Rattle.std.proofs.Common.{rules}
use Rattle.sms_relay.proofs.rp.RpMessageUnit.write.Goals as goal

pub returns : goal.returns
returns c = search rules
