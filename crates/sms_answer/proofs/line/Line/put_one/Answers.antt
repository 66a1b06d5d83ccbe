use Rattle.std.proofs.Common.{Bool, true, ◌&&◌, ap}
use Rattle.sms_answer.proofs.Standing.{line_stays, before_stays}
use Rattle.sms_answer.proofs.line.Line.put_one.Goals as goal

pub returns : goal.returns
returns c = before_stays c.self.inside.from c.self.inside.was_cut _ _ c.put_one.ensures c.self.invariant c.self.view_is

pub invariant_of-self : goal.invariant_of-self
invariant_of-self c = line_stays c.self.inside.from c.self.inside.was_cut _ c.put_one.ensures (ap (λ (b : Bool). b && true) c.requires) c.self.invariant
