use Rattle.sms_world.proofs.Promises.{promised}
use Rattle.sms_world.specs.World.Steps.{event_of}
use Rattle.sms_world.proofs.world.World.step.Goals as goal

pub returns-clause-whole : goal.returns-clause-whole
returns-clause-whole c = c.claims_hold.ensures.whole c.happen.new.self

pub returns-clause-refused : goal.returns-clause-refused
returns-clause-refused c = c.claims_hold.ensures.refused (event_of c.args.event.now) c.args.self.now c.happen.result c.happen.new.self c.happen.ensures.steps

pub returns-clause-once : goal.returns-clause-once
returns-clause-once c = c.claims_hold.ensures.once c.happen.new.self

pub returns-clause-accepted : goal.returns-clause-accepted
returns-clause-accepted c = c.claims_hold.ensures.accepted c.happen.new.self

pub returns-clause-copies : goal.returns-clause-copies
returns-clause-copies c = c.claims_hold.ensures.copies c.happen.new.self

pub returns-clause-promised : goal.returns-clause-promised
returns-clause-promised c = λ limits phones past.
    promised c.claims_hold.ensures c.deliveries_are_refused_only_where_full.ensures limits phones past c.happen.new.self
