use Rattle.std.proofs.Common.{arith}
use Rattle.sms_answer.proofs.RowLemmas.{ends_with_one}
use Rattle.sms_answer.proofs.line.Line.into_page.Goals as goal

pub returns : goal.returns
returns c =
    let i = c.self.inside in
    ends_with_one i.from i.was_cut c.args.self c.put_one.ensures (omega (arith, c.if-count-from.false, c.count.ensures)) c.self.invariant c.self.view_is
