use Rattle.std.proofs.Common.{rules}
use Rattle.sms_tpdu.proofs.deliver.flags.DeliverFlags.from_octet.Goals as goal

pub returns : goal.returns
returns c = search rules
