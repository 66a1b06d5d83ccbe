use Rattle.std.proofs.Common.{arith}
use Rattle.sms_join.proofs.Ends.{start_is_end}
use Rattle.sms_join.proofs.segments.start_of.Goals as goal

pub returns-else-index-eq0 : goal.returns-else-index-eq0
returns-else-index-eq0 c = start_is_end c.args.index c.args.ends.now (omega (arith, c.if-index-eq0.false)) c.requires
