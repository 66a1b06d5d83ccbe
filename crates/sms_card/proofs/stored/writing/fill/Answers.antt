use Rattle.std.proofs.Common.{arith}
use Rattle.sms_card.proofs.Filled.{filled_on}
use Rattle.sms_card.proofs.stored.writing.fill.Goals as goal

pub loop-out-preserved : goal.loop-out-preserved
loop-out-preserved c = filled_on _ c.loop-out.out.items c.push.new.self.items c.loop-out.invariant (omega arith) c.in_ok-push.ensures.items
