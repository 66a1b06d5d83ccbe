use Rattle.std.proofs.Common.{rules}
use Rattle.sms_script.proofs.meaning.text_of.Goals as goal

pub returns-in_err-target : goal.returns-in_err-target
returns-in_err-target c = search rules
