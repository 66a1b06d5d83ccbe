use Rattle.std.proofs.Common.{subst}
use Rattle.sms_world.specs.World.Value.{PartiesValue}
use Rattle.sms_world.specs.Inside.Parties.{Pushes}
use Rattle.sms_world.proofs.Answering.{with_centre, pushes}
use Rattle.sms_world.proofs.world.parties.Parties.push.Goals as goal

pub returns-clause-steps : goal.returns-clause-steps
returns-clause-steps c =
    let v : PartiesValue = record { centre = c.self.inside.centre; phones = c.self.inside.phones.items } in
    subst (λ (w : PartiesValue). Pushes c.args.now c.args.phone w c.push_with.result (with_centre v c.push_with.new.self)) c.self.view_is
    (pushes c.args.now c.args.phone v c.push_with.new.self c.push_with.result c.laws_below.ensures c.push_with.ensures.steps)
