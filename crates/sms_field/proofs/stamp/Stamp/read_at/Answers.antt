use Rattle.std.proofs.Common.{rules}
use Rattle.sms_field.proofs.stamp.Stamp.read_at.Goals as goal

pub returns-clause-read : goal.returns-clause-read
returns-clause-read c = search rules
