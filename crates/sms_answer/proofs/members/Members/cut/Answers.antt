use Rattle.sms_answer.proofs.ObjectLemmas.{object_cut}
use Rattle.sms_answer.proofs.members.Members.cut.Goals as goal

pub returns : goal.returns
returns c = rw c.cut.ensures c.self.view_is

pub invariant_of-self : goal.invariant_of-self
invariant_of-self c = rw c.cut.ensures (object_cut c.self.inside.object c.self.inside.base c.self.inside.was_cut c.self.inside.number c.self.invariant)
