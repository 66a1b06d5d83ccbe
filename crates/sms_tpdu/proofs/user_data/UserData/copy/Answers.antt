use Rattle.std.proofs.Common.{rules}
use Rattle.sms_tpdu.proofs.user_data.UserData.copy.Goals as goal

pub returns : goal.returns
returns c = search rules
