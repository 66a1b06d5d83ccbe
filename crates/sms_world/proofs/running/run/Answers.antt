use Rattle.sms_world.proofs.Promises.{promised}
use Rattle.sms_world.specs.World.Steps.{told_past}
use Rattle.sms_world.proofs.running.run.Goals as goal

pub returns-in-Ok-clause-runs : goal.returns-in-Ok-clause-runs
returns-in-Ok-clause-runs c = c.in-Ok.ensures.goes c.args.limits c.args.phones.now c.in_ok-world.ensures.stands

pub returns-in-Ok-clause-promised : goal.returns-in-Ok-clause-promised
returns-in-Ok-clause-promised c =
    promised c.claims_hold.ensures c.deliveries_are_refused_only_where_full.ensures c.args.limits c.args.phones.now (told_past c.args.events.now c.in-Ok.answers.items) c.let_happen.new.world

pub returns-in-Ok-clause-copies : goal.returns-in-Ok-clause-copies
returns-in-Ok-clause-copies c = c.claims_hold.ensures.copies c.let_happen.new.world
