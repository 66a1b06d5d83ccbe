use Rattle.std.proofs.Common.{rules}
use Rattle.sms_join.proofs.units.Units.part.Goals as goal

pub returns-in-Gsm-clause-is : goal.returns-in-Gsm-clause-is
returns-in-Gsm-clause-is c = search rules
