use Rattle.sms_world.proofs.Trusting.{traces_tell}
use Rattle.sms_world.proofs.laws.traces_tell.Goals as goal

pub returns : goal.returns
returns c = traces_tell
