use Rattle.std.proofs.Common.{rules}
use Rattle.sms_script.proofs.words.number.number_of.Goals as goal

pub loop-digit-init : goal.loop-digit-init
loop-digit-init c = search rules
