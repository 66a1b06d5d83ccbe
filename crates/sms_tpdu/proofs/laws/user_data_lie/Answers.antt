use Rattle.sms_tpdu.specs.Inside.SpansLaws.{user_data_lie}
use Rattle.sms_tpdu.proofs.laws.user_data_lie.Goals as goal

pub returns : goal.returns
returns c = user_data_lie
