use Rattle.sms_answer.proofs.Standing.{line_cut}
use Rattle.sms_answer.proofs.line.Line.cut.Goals as goal

pub returns : goal.returns
returns c = rw c.cut.ensures c.self.view_is

pub invariant_of-self : goal.invariant_of-self
invariant_of-self c = rw c.cut.ensures (line_cut c.self.inside.page c.self.inside.from c.self.inside.was_cut c.self.invariant)
