use Rattle.sms_saved.proofs.Changed.{own_octets}
use Rattle.sms_saved.proofs.laws.states_have_own_octets.Goals as goal

pub returns : goal.returns
returns c = own_octets
