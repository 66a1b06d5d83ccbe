use Rattle.std.proofs.Common.{rules}
use Rattle.sms_script.proofs.playing.start.started.Goals as goal

pub returns-after-clock-clause-there : goal.returns-after-clock-clause-there
returns-after-clock-clause-there g c = search rules
