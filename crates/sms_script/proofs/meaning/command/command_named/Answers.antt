use Rattle.std.proofs.Common.{rules}
use Rattle.sms_script.proofs.meaning.command.command_named.Goals as goal

pub returns-in-push : goal.returns-in-push
returns-in-push c more = search rules
