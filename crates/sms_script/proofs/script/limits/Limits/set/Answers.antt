use Rattle.std.proofs.Common.{rules}
use Rattle.sms_script.proofs.script.limits.Limits.set.Goals as goal

pub returns-in-Open-clause-limits : goal.returns-in-Open-clause-limits
returns-in-Open-clause-limits c = search rules
