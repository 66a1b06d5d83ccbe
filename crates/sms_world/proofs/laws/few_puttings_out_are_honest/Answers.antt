use Rattle.sms_world.proofs.PuttingsOut.{few_are_honest}
use Rattle.sms_world.proofs.laws.few_puttings_out_are_honest.Goals as goal

pub returns : goal.returns
returns c = few_are_honest
