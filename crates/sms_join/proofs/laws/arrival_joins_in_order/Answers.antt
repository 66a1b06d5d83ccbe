use Rattle.sms_join.proofs.Joining.{joins_one}
use Rattle.sms_join.proofs.laws.arrival_joins_in_order.Goals as goal

pub returns : goal.returns
returns c = joins_one
