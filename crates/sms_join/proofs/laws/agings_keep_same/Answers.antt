use Rattle.sms_join.proofs.Young.{ages_alike}
use Rattle.sms_join.proofs.laws.agings_keep_same.Goals as goal

pub returns : goal.returns
returns c = ages_alike
