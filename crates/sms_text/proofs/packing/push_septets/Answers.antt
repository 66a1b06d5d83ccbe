use Rattle.std.proofs.Common.{refl}
use Rattle.sms_text.proofs.Words.{one_more_septets, no_more_septets}
use Rattle.sms_text.proofs.packing.push_septets.Goals as goal

pub loop-preserved : goal.loop-preserved
loop-preserved c = one_more_septets c.loop.septets.items c.push.new.self.items c.args.count c.loop.counter c.loop.left _ _ c.loop-test.true c.in_ok-push.ensures.items refl c.loop.invariant

pub returns : goal.returns
returns c = no_more_septets c.loop.septets.items c.args.count c.loop.counter c.loop.left _ c.loop-test.false c.loop.invariant
