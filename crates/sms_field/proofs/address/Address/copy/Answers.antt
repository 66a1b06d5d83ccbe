use Rattle.std.proofs.Common.{rules}
use Rattle.sms_field.proofs.address.Address.copy.Goals as goal

pub returns : goal.returns
returns c = search rules
