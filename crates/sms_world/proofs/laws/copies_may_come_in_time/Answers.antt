use Rattle.sms_world.proofs.Rejecting.{only_time_is_left}
use Rattle.sms_world.proofs.laws.copies_may_come_in_time.Goals as goal

pub returns : goal.returns
returns c = only_time_is_left
