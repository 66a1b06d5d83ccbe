use Rattle.sms_party.proofs.Few.{few_are_put_out}
use Rattle.sms_party.proofs.laws.few_are_put_out.Goals as goal

pub returns : goal.returns
returns c = few_are_put_out
