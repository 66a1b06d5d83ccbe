use Rattle.std.proofs.Common.{arith}
use Rattle.sms_world.specs.Machine.Event.{Tick}
use Rattle.sms_world.specs.World.Value.{WorldValue}
use Rattle.sms_world.proofs.Happening.{clock_moved, clock_ended, world_moved, seen, seen_still}
use Rattle.sms_world.proofs.world.World.tick.Goals as goal

pub returns-then-seconds-self-clause-steps : goal.returns-then-seconds-self-clause-steps
returns-then-seconds-self-clause-steps c =
    let v : WorldValue = record { limits = c.self.inside.limits; clock = c.self.inside.clock; parties = c.self.inside.parties; packets = c.self.inside.packets.items } in
    seen_still v c.args.self.now (Tick c.args.seconds) _ c.self.view_is (clock_ended v c.args.seconds (omega (arith, c.if-seconds-self.true, c.self.invariant.clock)))

pub invariant_of-self : goal.invariant_of-self
invariant_of-self c =
    let v : WorldValue = record { limits = c.self.inside.limits; clock = c.self.inside.clock; parties = c.self.inside.parties; packets = c.self.inside.packets.items } in
    world_moved v c.advance.new.self c.args.seconds c.self.invariant (omega (arith, c.if-seconds-self.false, c.self.invariant.clock)) c.advance.ensures.moves c.advance.ensures.phones

pub returns-clause-steps : goal.returns-clause-steps
returns-clause-steps c =
    let v : WorldValue = record { limits = c.self.inside.limits; clock = c.self.inside.clock; parties = c.self.inside.parties; packets = c.self.inside.packets.items } in
    seen v c.args.self.now _ (Tick c.args.seconds) _ c.self.view_is (clock_moved v c.advance.new.self c.args.seconds (omega (arith, c.if-seconds-self.false, c.self.invariant.clock)) c.advance.ensures.moves)
