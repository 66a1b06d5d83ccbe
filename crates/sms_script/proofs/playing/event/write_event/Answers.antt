use Rattle.std.proofs.Common.{rules}
use Rattle.sms_script.proofs.playing.event.write_event.Goals as goal

pub returns : goal.returns
returns g c = search rules
