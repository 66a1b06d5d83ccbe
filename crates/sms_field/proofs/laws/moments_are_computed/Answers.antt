use Rattle.sms_field.proofs.TimeLaws.{moment_is_one, moment_is_there}
use Rattle.sms_field.proofs.laws.moments_are_computed.Goals as goal

pub returns-clause-one : goal.returns-clause-one
returns-clause-one c = moment_is_one

pub returns-clause-there : goal.returns-clause-there
returns-clause-there c = moment_is_there
