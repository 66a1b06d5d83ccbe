use Rattle.std.proofs.Common.{rules}
use Rattle.sms_party.proofs.sender.accepts.Goals as goal

pub returns-in-Some : goal.returns-in-Some
returns-in-Some c = search rules
