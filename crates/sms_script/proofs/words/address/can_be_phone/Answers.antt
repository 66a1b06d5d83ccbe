use Rattle.std.proofs.Common.{rules}
use Rattle.sms_script.proofs.words.address.can_be_phone.Goals as goal

pub returns-in-Name : goal.returns-in-Name
returns-in-Name c = search rules
