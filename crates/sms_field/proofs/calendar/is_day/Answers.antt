use Rattle.std.proofs.Common.{rules}
use Rattle.sms_field.proofs.calendar.is_day.Goals as goal

pub returns : goal.returns
returns c = search rules
