use Rattle.std.proofs.Common.{rules}
use Rattle.sms_field.proofs.validity.seconds_of.Goals as goal

pub returns-in-168-to-196 : goal.returns-in-168-to-196
returns-in-168-to-196 c = search rules
