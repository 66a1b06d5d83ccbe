use Rattle.sms_join.proofs.History.{finishes_by_history}
use Rattle.sms_join.proofs.laws.finishes_by_history.Goals as goal

pub returns : goal.returns
returns c = finishes_by_history
