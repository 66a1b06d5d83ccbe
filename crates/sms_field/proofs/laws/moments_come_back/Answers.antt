use Rattle.sms_field.proofs.TimeLaws.{moment_comes_back, moment_comes_back_of_zone_0}
use Rattle.sms_field.proofs.laws.moments_come_back.Goals as goal

pub returns-clause-each_zone : goal.returns-clause-each_zone
returns-clause-each_zone c = moment_comes_back

pub returns-clause-zone_0 : goal.returns-clause-zone_0
returns-clause-zone_0 c = moment_comes_back_of_zone_0
