use Rattle.std.proofs.Common.{◌<◌, length, sym, subst}
use Rattle.sms_world.specs.World.Value.{WorldValue}
use Rattle.sms_world.specs.World.Standing.{StandsFor}
use Rattle.sms_world.proofs.Shown.{status_stands}
use Rattle.sms_world.proofs.world.World.status.Goals as goal

pub returns-clause-stands : goal.returns-clause-stands
returns-clause-stands c = λ m stands.
    let v : WorldValue = record { limits = c.self.inside.limits; clock = c.self.inside.clock; parties = c.self.inside.parties; packets = c.self.inside.packets.items } in
    let h : StandsFor v m = subst (λ (w : WorldValue). StandsFor w m) (sym c.self.view_is) stands in
    status_stands v m c.args.phone c.args.number c.status.result (subst (λ (w : WorldValue). c.args.phone < length w.parties.phones) (sym c.self.view_is) c.requires) c.status.ensures.status h

pub returns-clause-accepted : goal.returns-clause-accepted
returns-clause-accepted c = c.claims_hold.ensures.accepted c.args.self.now
