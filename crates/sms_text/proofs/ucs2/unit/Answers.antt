use Rattle.std.proofs.Common.{rules}
use Rattle.sms_text.proofs.ucs2.unit.Goals as goal

pub returns : goal.returns
returns c = search rules
