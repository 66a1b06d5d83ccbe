use Rattle.std.proofs.Common.{arith}
use Rattle.sms_join.proofs.LooseSearch.{linking_twice, linking_more}
use Rattle.sms_join.proofs.key_ring.loose_keys.LooseKeys.link_all.Goals as goal

pub returns-then-not-link_next-clause-once : goal.returns-then-not-link_next-clause-once
returns-then-not-link_next-clause-once c =
    linking_twice c.args.self.now c.loop.self c.loop.counter c.len-end.result c.link_next.result c.loop.invariant (omega (arith, c.loop-test.true))
    c.link_next.ensures.is_new c.if-not-link_next.true

pub loop-preserved : goal.loop-preserved
loop-preserved c =
    linking_more c.args.self.now c.loop.self c.link_next.new.self c.loop.counter c.len-end.result c.link_next.result c.loop.invariant (omega (arith, c.loop-test.true))
    c.link_next.ensures.is_new c.if-not-link_next.false (c.link_next.ensures.linked c.if-not-link_next.false)
