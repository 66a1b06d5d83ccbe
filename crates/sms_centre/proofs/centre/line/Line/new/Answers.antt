use Rattle.std.proofs.Common.{rules}
use Rattle.sms_centre.proofs.centre.line.Line.new.Goals as goal

pub returns : goal.returns
returns c = search rules
