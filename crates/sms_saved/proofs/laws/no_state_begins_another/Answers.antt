use Rattle.sms_saved.proofs.Changed.{begins_none}
use Rattle.sms_saved.proofs.laws.no_state_begins_another.Goals as goal

pub returns : goal.returns
returns c = begins_none
