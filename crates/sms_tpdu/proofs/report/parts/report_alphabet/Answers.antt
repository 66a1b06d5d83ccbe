use Rattle.std.proofs.Common.{rules}
use Rattle.sms_tpdu.proofs.report.parts.report_alphabet.Goals as goal

pub returns-in-None : goal.returns-in-None
returns-in-None c = search rules
