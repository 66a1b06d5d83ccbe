use Rattle.sms_join.proofs.Young.{sets_stay_few}
use Rattle.sms_join.proofs.laws.sets_stay_few.Goals as goal

pub returns : goal.returns
returns c = sets_stay_few
