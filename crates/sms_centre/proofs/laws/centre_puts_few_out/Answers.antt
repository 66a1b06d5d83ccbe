use Rattle.sms_centre.proofs.Few.{centre_puts_few_out}
use Rattle.sms_centre.proofs.laws.centre_puts_few_out.Goals as goal

pub returns : goal.returns
returns c = centre_puts_few_out
