use Rattle.sms_join.proofs.Finishing.{same_is_equivalence}
use Rattle.sms_join.proofs.laws.same_is_equivalence.Goals as goal

pub returns : goal.returns
returns c = same_is_equivalence
