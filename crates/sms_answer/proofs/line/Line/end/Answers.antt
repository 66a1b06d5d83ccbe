use Rattle.std.proofs.Common.{sym, ◌∙◌, arith}
use Rattle.sms_answer.proofs.RowLemmas.{grows_by_one}
use Rattle.sms_answer.proofs.line.Line.end.Goals as goal

pub returns : goal.returns
returns c =
    let i = c.self.inside in
    rw c.count-self-inside.ensures
    (grows_by_one i.from i.was_cut c.args.self.now c.put_one.ensures (omega (arith, c.if-count-self.false, c.count.ensures)) c.self.invariant c.self.view_is (sym c.is_cut.ensures ∙ c.if-is_cut.false))
