use Rattle.std.proofs.Common.{rules}
use Rattle.sms_tpdu.proofs.user_data.lengths.length_of_header.Goals as goal

pub returns-in-Gsm7 : goal.returns-in-Gsm7
returns-in-Gsm7 c = search rules
