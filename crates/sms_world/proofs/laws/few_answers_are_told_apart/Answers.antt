use Rattle.sms_world.proofs.Numbered.{few_puttings_out}
use Rattle.sms_world.proofs.laws.few_answers_are_told_apart.Goals as goal

pub returns : goal.returns
returns c = few_puttings_out
