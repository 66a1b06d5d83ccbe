use Rattle.sms_field.proofs.TimeLaws.{stamp_is_one, stamp_is_there}
use Rattle.sms_field.proofs.laws.stamps_are_computed.Goals as goal

pub returns-clause-one : goal.returns-clause-one
returns-clause-one c = stamp_is_one

pub returns-clause-there : goal.returns-clause-there
returns-clause-there c = stamp_is_there
