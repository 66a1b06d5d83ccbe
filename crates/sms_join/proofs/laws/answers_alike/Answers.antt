use Rattle.sms_join.proofs.Same.{answers_alike}
use Rattle.sms_join.proofs.laws.answers_alike.Goals as goal

pub returns : goal.returns
returns c = answers_alike
