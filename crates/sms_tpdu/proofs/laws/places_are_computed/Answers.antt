use Rattle.sms_tpdu.proofs.Headers.{concat_is_there, concat_is_one, concat_is_place}
use Rattle.sms_tpdu.proofs.laws.places_are_computed.Goals as goal

pub returns-clause-there : goal.returns-clause-there
returns-clause-there c = concat_is_there

pub returns-clause-one : goal.returns-clause-one
returns-clause-one c = concat_is_one

pub returns-clause-in_range : goal.returns-clause-in_range
returns-clause-in_range c = concat_is_place
