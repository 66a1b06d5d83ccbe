use Rattle.sms_join.proofs.Walking.{are_walked}
use Rattle.sms_join.proofs.walks.open_sets_are_walked.Goals as goal

pub returns : goal.returns
returns c = are_walked
