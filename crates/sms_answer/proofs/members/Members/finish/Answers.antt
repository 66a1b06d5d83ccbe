use Rattle.sms_answer.proofs.ObjectLemmas.{object_stays, value_stays, object_ends}
use Rattle.sms_answer.proofs.members.Members.finish.Goals as goal

pub returns : goal.returns
returns c =
    let i = c.self.inside in
    object_ends i.base i.was_cut i.number _ c.into_line.ensures (object_stays i.base i.was_cut i.number _ _ c.close.ensures tt c.self.invariant)
    (value_stays i.base i.was_cut i.number _ _ c.close.ensures c.self.invariant c.self.view_is)
