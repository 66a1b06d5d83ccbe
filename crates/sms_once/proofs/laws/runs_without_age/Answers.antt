use Rattle.sms_once.proofs.InTime.{runs_without_age}
use Rattle.sms_once.proofs.laws.runs_without_age.Goals as goal

pub returns : goal.returns
returns c = runs_without_age
