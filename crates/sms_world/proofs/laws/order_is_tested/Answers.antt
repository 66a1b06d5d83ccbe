use Rattle.sms_world.proofs.Tested.{order_is_tested}
use Rattle.sms_world.proofs.laws.order_is_tested.Goals as goal

pub returns : goal.returns
returns c = order_is_tested c.laws_below.ensures.whole
