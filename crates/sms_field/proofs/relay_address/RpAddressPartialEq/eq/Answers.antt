use Rattle.std.proofs.Common.{rules}
use Rattle.sms_field.proofs.relay_address.RpAddressPartialEq.eq.Goals as goal

pub returns-then-self-other-2 : goal.returns-then-self-other-2
returns-then-self-other-2 c = search rules
