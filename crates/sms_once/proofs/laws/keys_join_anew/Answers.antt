use Rattle.sms_once.proofs.Anew.{keys_join_anew}
use Rattle.sms_once.proofs.laws.keys_join_anew.Goals as goal

pub returns : goal.returns
returns c = keys_join_anew
