use Rattle.std.proofs.Common.{◌<◌, length, sym, subst, ◌∙◌}
use Rattle.sms_world.specs.World.Value.{WorldValue}
use Rattle.sms_world.specs.World.Standing.{StandsFor}
use Rattle.sms_world.proofs.Shown.{store_stands}
use Rattle.sms_world.proofs.world.World.store.Goals as goal

pub returns-clause-stands : goal.returns-clause-stands
returns-clause-stands c = λ m stands.
    let v : WorldValue = record { limits = c.self.inside.limits; clock = c.self.inside.clock; parties = c.self.inside.parties; packets = c.self.inside.packets.items } in
    let h : StandsFor v m = subst (λ (w : WorldValue). StandsFor w m) (sym c.self.view_is) stands in
    c.store.ensures ∙ store_stands v m c.args.phone (subst (λ (w : WorldValue). c.args.phone < length w.parties.phones) (sym c.self.view_is) c.requires) h
