use Rattle.sms_tpdu.specs.UserData.Elements.{seen_element}
use Rattle.sms_tpdu.proofs.TablesWalk.{starts, goes_on, ended}
use Rattle.sms_tpdu.proofs.user_data.view.header.HeaderView.tables.Goals as goal

pub loop-element-init : goal.loop-element-init
loop-element-init c = starts c.args.self.now c.into_iter-element-iterator.result (rw c.into_iter-element-iterator.ensures.into_iter_gives c.elements-element-items.ensures)

pub loop-element-preserved : goal.loop-element-preserved
loop-element-preserved c = rw c.told_by-tables.ensures (goes_on c.args.self.now c.loop-element.element-iterator c.next.new.self c.loop-element.tables (seen_element c.in-Some.element) c.in-Some.ensures.steps c.loop-element.invariant)

pub returns : goal.returns
returns c = ended c.args.self.now c.loop-element.element-iterator c.loop-element.tables c.in-None.ensures.steps.0 c.loop-element.invariant
