use Rattle.std.proofs.Common.{rules}
use Rattle.sms_join.proofs.units.Units.begins_pair.Goals as goal

pub returns-in-Gsm : goal.returns-in-Gsm
returns-in-Gsm c = search rules
