use Rattle.sms_field.specs.Inside.OctetLists.{octets_are}
use Rattle.std.proofs.Common.{true, subst, arith}
use Rattle.sms_world.specs.World.Value.{PartiesValue}
use Rattle.sms_world.specs.Inside.Parties.{Receives}
use Rattle.sms_world.proofs.Answering.{with_centre, reaches_centre}
use Rattle.sms_world.proofs.world.parties.Parties.reach_centre.Goals as goal

pub returns-clause-receives : goal.returns-clause-receives
returns-clause-receives c =
    let v : PartiesValue = record { centre = c.self.inside.centre; phones = c.self.inside.phones.items } in
    subst (λ (w : PartiesValue). Receives c.args.now true c.args.phone c.args.octets.now w c.receive_with.result (with_centre v c.receive_with.new.self)) c.self.view_is
    (reaches_centre c.args.now c.args.phone c.args.octets.now v c.receive_with.new.self c.receive_with.result c.laws_below.ensures c.receive_with.ensures.receives)

pub returns-clause-octets : goal.returns-clause-octets
returns-clause-octets c = octets_are c.args.octets.now (λ i. omega (arith, c.type_inv.octets i))
