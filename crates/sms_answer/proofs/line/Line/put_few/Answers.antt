use Rattle.sms_answer.proofs.Standing.{line_stays, before_stays}
use Rattle.sms_answer.proofs.line.Line.put_few.Goals as goal

pub returns : goal.returns
returns g c = before_stays c.self.inside.from c.self.inside.was_cut _ _ c.put_few.ensures c.self.invariant c.self.view_is

pub invariant_of-self : goal.invariant_of-self
invariant_of-self g c = line_stays c.self.inside.from c.self.inside.was_cut _ c.put_few.ensures c.requires c.self.invariant
