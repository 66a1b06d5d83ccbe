use Rattle.sms_party.proofs.OtherPhones.{others_leave}
use Rattle.sms_party.proofs.laws.others_leave_sender.Goals as goal

pub returns : goal.returns
returns c = others_leave
