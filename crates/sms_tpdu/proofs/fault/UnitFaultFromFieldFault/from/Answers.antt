use Rattle.std.proofs.Common.{rules}
use Rattle.sms_tpdu.proofs.fault.UnitFaultFromFieldFault.from.Goals as goal

pub returns-in-Address-BadDigit : goal.returns-in-Address-BadDigit
returns-in-Address-BadDigit c = search rules
