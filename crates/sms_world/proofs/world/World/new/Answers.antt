use Rattle.sms_world.proofs.Beginning.{distinct, world_begins, stands_at_first}
use Rattle.sms_world.proofs.world.World.new.Goals as goal

pub new-requires-clause-distinct : goal.new-requires-clause-distinct
new-requires-clause-distinct c = distinct c.args.phones.now c.requires.phones.0

pub invariant_of-result : goal.invariant_of-result
invariant_of-result c = world_begins c.args.limits c.args.phones.now c.in_ok-new.field-0 c.new-2.result.items c.new-2.ensures c.in_ok-new.ensures.stand

pub returns-clause-stands : goal.returns-clause-stands
returns-clause-stands c = stands_at_first c.args.limits c.args.phones.now c.in_ok-new.field-0 c.new-2.result.items c.new-2.ensures c.in_ok-new.ensures.stand
