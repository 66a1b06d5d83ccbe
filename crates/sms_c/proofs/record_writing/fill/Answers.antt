use Rattle.std.proofs.Common.{arith}
use Rattle.sms_c.proofs.RecordFills.{filled_not, filled_on}
use Rattle.sms_c.proofs.record_writing.fill.Goals as goal

pub loop-octets-init : goal.loop-octets-init
loop-octets-init c = filled_not _ c.requires

pub loop-octets-preserved : goal.loop-octets-preserved
loop-octets-preserved c = filled_on _ c.loop-octets.octets.items c.push.new.self.items c.loop-octets.invariant (omega arith) c.in_ok-push.ensures.items
