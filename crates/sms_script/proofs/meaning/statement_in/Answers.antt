use Rattle.std.proofs.Common.{rules}
use Rattle.sms_script.proofs.meaning.statement_in.Goals as goal

pub returns : goal.returns
returns c = search rules
