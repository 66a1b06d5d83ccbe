use Rattle.sms_join.proofs.Joining.{joins_in_order}
use Rattle.sms_join.proofs.laws.arrivals_join_in_order.Goals as goal

pub returns : goal.returns
returns c = joins_in_order
