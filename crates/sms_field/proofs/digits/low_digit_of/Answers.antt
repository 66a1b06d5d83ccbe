use Rattle.std.proofs.Common.{rules}
use Rattle.sms_field.proofs.digits.low_digit_of.Goals as goal

pub returns-then-low-lt15 : goal.returns-then-low-lt15
returns-then-low-lt15 c = search rules
