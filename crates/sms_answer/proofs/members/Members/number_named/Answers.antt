use Rattle.std.proofs.Common.{arith}
use Rattle.sms_answer.proofs.InLine.{decimal_in_line}
use Rattle.sms_answer.proofs.ObjectLemmas.{object_stays, value_stays}
use Rattle.sms_answer.proofs.members.Members.number_named.Goals as goal

pub returns : goal.returns
returns c = value_stays c.self.inside.base c.self.inside.was_cut c.self.inside.number _ _ c.number_named.ensures c.self.invariant c.self.view_is

pub invariant_of-self : goal.invariant_of-self
invariant_of-self c = object_stays c.self.inside.base c.self.inside.was_cut c.self.inside.number _ _ c.number_named.ensures (decimal_in_line c.args.number (omega (arith, c.ranges.number)), tt) c.self.invariant
