use Rattle.std.proofs.Common.{arith}
use Rattle.sms_page.proofs.EscapeLemmas.{none_put, next_put, all_put}
use Rattle.sms_page.proofs.escape.put_parts.Goals as goal

pub loop-at-init : goal.loop-at-init
loop-at-init g c = (omega arith, none_put g.E.Escaping.rule c.args.page.now c.args.text.now)

pub loop-at-preserved : goal.loop-at-preserved
loop-at-preserved g c =
    (c.put_next-at.ensures.moved.1, next_put g.E.Escaping.rule c.args.text.now c.loop-at.at c.put_next-at.result (omega (arith, c.put_next-at.ensures.moved.0)) c.loop-at.invariant.1 c.put_next-at.ensures.put)

pub returns : goal.returns
returns g c = all_put g.E.Escaping.rule c.args.text.now c.loop-at.at (omega arith) c.loop-at.invariant.1
