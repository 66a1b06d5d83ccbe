use Rattle.std.proofs.Common.{rules}
use Rattle.sms_message.proofs.reading.unit_in.Goals as goal

pub returns-in-FromPhone-clause-read : goal.returns-in-FromPhone-clause-read
returns-in-FromPhone-clause-read c = search rules
