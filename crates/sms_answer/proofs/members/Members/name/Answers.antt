use Rattle.sms_answer.proofs.ObjectLemmas.{object_stays, value_stays}
use Rattle.sms_answer.proofs.members.Members.name.Goals as goal

pub returns : goal.returns
returns c = value_stays c.self.inside.base c.self.inside.was_cut c.self.inside.number _ _ c.name.ensures c.self.invariant c.self.view_is

pub invariant_of-self : goal.invariant_of-self
invariant_of-self c = object_stays c.self.inside.base c.self.inside.was_cut c.self.inside.number _ _ c.name.ensures tt c.self.invariant
