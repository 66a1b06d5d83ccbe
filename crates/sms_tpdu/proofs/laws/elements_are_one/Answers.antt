use Rattle.sms_tpdu.proofs.Headers.{elements_are_one}
use Rattle.sms_tpdu.proofs.laws.elements_are_one.Goals as goal

pub returns : goal.returns
returns c = elements_are_one
