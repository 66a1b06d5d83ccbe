use Rattle.std.proofs.Common.{rules}
use Rattle.sms_tpdu.proofs.report.indicator.skip_further.Goals as goal

pub returns : goal.returns
returns c = search rules
