use Rattle.sms_once.proofs.InTime.{answers_in_time}
use Rattle.sms_once.proofs.laws.answers_in_time.Goals as goal

pub returns : goal.returns
returns c = answers_in_time
