use Rattle.std.proofs.Common.{rules}
use Rattle.sms_tpdu.proofs.report.octet.deliver_report.Goals as goal

pub returns : goal.returns
returns c = search rules
