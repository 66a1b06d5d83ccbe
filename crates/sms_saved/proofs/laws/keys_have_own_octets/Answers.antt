use Rattle.sms_saved.proofs.Keys.{own_octets}
use Rattle.sms_saved.proofs.laws.keys_have_own_octets.Goals as goal

pub returns : goal.returns
returns c = own_octets
