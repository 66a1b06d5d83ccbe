use Rattle.std.proofs.Common.{refl, arith}
use Rattle.sms_text.proofs.Words.{one_more_octets, no_more_octets}
use Rattle.sms_text.proofs.packing.push_octets.Goals as goal

pub loop-preserved : goal.loop-preserved
loop-preserved c = record {
  items = one_more_octets c.loop.octets.items c.push_reserved.new.self.items c.args.count c.loop.counter c.loop.left _ _ c.loop-test.true c.push_reserved.ensures.items refl c.loop.invariant.items;
  len = omega arith;
  capacity = omega arith;
}

pub returns-clause-items : goal.returns-clause-items
returns-clause-items c = no_more_octets c.loop.octets.items c.args.count c.loop.counter c.loop.left _ c.loop-test.false c.loop.invariant.items
