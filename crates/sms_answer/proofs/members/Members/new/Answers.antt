use Rattle.sms_answer.proofs.ObjectLemmas.{new_object, new_value}
use Rattle.sms_answer.proofs.members.Members.new.Goals as goal

pub returns : goal.returns
returns c = rw (c.count-base.ensures, c.is_cut-was_cut.ensures) (new_value c.args.page c.args.number (rw c.new-object.ensures at c.begin.ensures))

pub invariant_of-result : goal.invariant_of-result
invariant_of-result c = rw (c.count-base.ensures, c.is_cut-was_cut.ensures) (new_object c.args.page c.args.number (rw c.new-object.ensures at c.begin.ensures))
