use Rattle.sms_once.proofs.Steps.{steps_follow_run}
use Rattle.sms_once.proofs.calls.steps_follow_run.Goals as goal

pub returns : goal.returns
returns c = steps_follow_run c.answers_alike.ensures c.agings_keep_same.ensures c.same_is_equivalence.ensures
