use Rattle.std.proofs.Common.{rules}
use Rattle.sms_script.proofs.transcript.push_entry_line.Goals as goal

pub returns : goal.returns
returns c = search rules
