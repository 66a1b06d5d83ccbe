use Rattle.std.proofs.Common.{rules}
use Rattle.sms_tpdu.proofs.user_data.writing.length_of_septets.Goals as goal

pub returns : goal.returns
returns c = search rules
