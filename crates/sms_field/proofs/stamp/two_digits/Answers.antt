use Rattle.std.proofs.Common.{rules}
use Rattle.sms_field.proofs.stamp.two_digits.Goals as goal

pub returns-then-units-lt10-clause-value : goal.returns-then-units-lt10-clause-value
returns-then-units-lt10-clause-value c = search rules
