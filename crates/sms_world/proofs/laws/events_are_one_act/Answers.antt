use Rattle.sms_world.proofs.Understood.{is_one_act}
use Rattle.sms_world.proofs.laws.events_are_one_act.Goals as goal

pub returns : goal.returns
returns c = is_one_act c.laws_below.ensures
