use Rattle.std.proofs.Common.{◌<◌, ◌≤◌, not, length, Ok, Err, subst, arith}
use Rattle.sms_field.specs.Inside.OctetLists.{octets_are}
use Rattle.sms_world.specs.World.Parties.{place_at}
use Rattle.sms_world.specs.Machine.Event.{Inject}
use Rattle.sms_world.proofs.Nowhere.{dropped_somewhere}
use Rattle.sms_world.proofs.Happening.{injected, injected_nowhere, ends_badly, badly_a_world, room, well_a_world, ends_well, puts_more, seen_still}
use Rattle.sms_message.specs.declared.outcome.Dropped.TheVariants.{Memory}
use Rattle.sms_world.specs.World.Value.{WorldValue}
use Rattle.sms_world.proofs.world.World.inject.Goals as goal

pub returns-then-phone-count-clause-steps : goal.returns-then-phone-count-clause-steps
returns-then-phone-count-clause-steps c =
    let v : WorldValue = record { limits = c.self.inside.limits; clock = c.self.inside.clock; parties = c.self.inside.parties; packets = c.self.inside.packets.items } in
    let are = octets_are c.args.octets.now (λ i. omega (arith, c.type_inv.octets i)) in
    let beyond : length v.parties.phones ≤ c.args.phone = subst (λ n. n ≤ c.args.phone) c.count.ensures c.if-phone-count.true in
    seen_still v c.args.self.now (Inject (place_at c.args.up c.args.phone) c.args.octets.now) _ c.self.view_is (injected_nowhere v c.args.up c.args.phone c.args.octets.now c.laws_below.ensures are beyond)

pub returns-in_err-make_room-clause-steps : goal.returns-in_err-make_room-clause-steps
returns-in_err-make_room-clause-steps c =
    let v : WorldValue = record { limits = c.self.inside.limits; clock = c.self.inside.clock; parties = c.self.inside.parties; packets = c.self.inside.packets.items } in
    let are = octets_are c.args.octets.now (λ i. omega (arith, c.type_inv.octets i)) in
    let within : c.args.phone < length v.parties.phones = subst (λ n. c.args.phone < n) c.count.ensures c.if-phone-count.false in
    ends_badly v c.args.self.now (Inject (place_at c.args.up c.args.phone) c.args.octets.now) (not c.args.up) (c.args.phone) v.parties c.make_room.new.self.items c.self.view_is c.in_err-make_room.ensures.items c.from_residual.result Memory c.from_residual.ensures.1 (injected v c.args.up c.args.phone c.args.octets.now c.laws_below.ensures are v.parties (Err Memory) within (λ m h e. h))

pub invariant_of-self-in_err-step : goal.invariant_of-self-in_err-step
invariant_of-self-in_err-step c =
    let v : WorldValue = record { limits = c.self.inside.limits; clock = c.self.inside.clock; parties = c.self.inside.parties; packets = c.self.inside.packets.items } in
    let are = octets_are c.args.octets.now (λ i. omega (arith, c.type_inv.octets i)) in
    let within : c.args.phone < length v.parties.phones = subst (λ n. c.args.phone < n) c.count.ensures c.if-phone-count.false in
    badly_a_world v c.args.self.now (Inject (place_at c.args.up c.args.phone) c.args.octets.now) (not c.args.up) (c.args.phone) c.receive.new.self c.make_room.new.self.items c.self.view_is c.in_ok-make_room.ensures.items c.in_err-step.field-0.0 c.self.invariant (injected v c.args.up c.args.phone c.args.octets.now c.laws_below.ensures are c.receive.new.self (Err c.in_err-step.field-0.0) within c.in_err-step.ensures.receives) c.in_err-step.ensures.phones

pub returns-in_err-step-clause-steps : goal.returns-in_err-step-clause-steps
returns-in_err-step-clause-steps c =
    let v : WorldValue = record { limits = c.self.inside.limits; clock = c.self.inside.clock; parties = c.self.inside.parties; packets = c.self.inside.packets.items } in
    let are = octets_are c.args.octets.now (λ i. omega (arith, c.type_inv.octets i)) in
    let within : c.args.phone < length v.parties.phones = subst (λ n. c.args.phone < n) c.count.ensures c.if-phone-count.false in
    ends_badly v c.args.self.now (Inject (place_at c.args.up c.args.phone) c.args.octets.now) (not c.args.up) (c.args.phone) c.receive.new.self c.make_room.new.self.items c.self.view_is c.in_ok-make_room.ensures.items c.from_residual-in_err-step.result c.in_err-step.field-0.0 c.from_residual-in_err-step.ensures.1 (injected v c.args.up c.args.phone c.args.octets.now c.laws_below.ensures are c.receive.new.self (Err c.in_err-step.field-0.0) within c.in_err-step.ensures.receives)

pub keep-requires : goal.keep-requires
keep-requires c =
    let v : WorldValue = record { limits = c.self.inside.limits; clock = c.self.inside.clock; parties = c.self.inside.parties; packets = c.self.inside.packets.items } in
    let are = octets_are c.args.octets.now (λ i. omega (arith, c.type_inv.octets i)) in
    let within : c.args.phone < length v.parties.phones = subst (λ n. c.args.phone < n) c.count.ensures c.if-phone-count.false in
    let few = room v (Inject (place_at c.args.up c.args.phone) c.args.octets.now) (not c.args.up) (c.args.phone) c.receive.new.self c.in_ok-step.step c.self.invariant (injected v c.args.up c.args.phone c.args.octets.now c.laws_below.ensures are c.receive.new.self (Ok c.in_ok-step.step) within c.in_ok-step.ensures.receives) in
    omega (arith, few, c.in_ok-make_room.ensures.room)

pub invariant_of-self-2 : goal.invariant_of-self-2
invariant_of-self-2 c =
    let v : WorldValue = record { limits = c.self.inside.limits; clock = c.self.inside.clock; parties = c.self.inside.parties; packets = c.self.inside.packets.items } in
    let are = octets_are c.args.octets.now (λ i. omega (arith, c.type_inv.octets i)) in
    let within : c.args.phone < length v.parties.phones = subst (λ n. c.args.phone < n) c.count.ensures c.if-phone-count.false in
    well_a_world v c.args.self.now (Inject (place_at c.args.up c.args.phone) c.args.octets.now) (not c.args.up) (c.args.phone) c.receive.new.self c.make_room.new.self.items c.self.view_is c.in_ok-make_room.ensures.items c.in_ok-step.step c.keep.new.self.items c.keep.ensures.packets c.self.invariant (injected v c.args.up c.args.phone c.args.octets.now c.laws_below.ensures are c.receive.new.self (Ok c.in_ok-step.step) within c.in_ok-step.ensures.receives) c.in_ok-step.ensures.phones within

pub returns-clause-steps : goal.returns-clause-steps
returns-clause-steps c =
    let v : WorldValue = record { limits = c.self.inside.limits; clock = c.self.inside.clock; parties = c.self.inside.parties; packets = c.self.inside.packets.items } in
    let are = octets_are c.args.octets.now (λ i. omega (arith, c.type_inv.octets i)) in
    let within : c.args.phone < length v.parties.phones = subst (λ n. c.args.phone < n) c.count.ensures c.if-phone-count.false in
    ends_well v c.args.self.now (Inject (place_at c.args.up c.args.phone) c.args.octets.now) (not c.args.up) (c.args.phone) c.receive.new.self c.make_room.new.self.items c.self.view_is c.in_ok-make_room.ensures.items c.in_ok-step.step c.keep.new.self.items c.keep.ensures.packets c.keep.result c.keep.ensures.outcome (injected v c.args.up c.args.phone c.args.octets.now c.laws_below.ensures are c.receive.new.self (Ok c.in_ok-step.step) within c.in_ok-step.ensures.receives)

pub returns-clause-packets : goal.returns-clause-packets
returns-clause-packets c =
    let v : WorldValue = record { limits = c.self.inside.limits; clock = c.self.inside.clock; parties = c.self.inside.parties; packets = c.self.inside.packets.items } in
    puts_more v c.args.self.now (Inject (place_at c.args.up c.args.phone) c.args.octets.now) (not c.args.up) (c.args.phone) c.receive.new.self c.make_room.new.self.items c.self.view_is c.in_ok-make_room.ensures.items c.in_ok-step.step c.keep.new.self.items c.keep.ensures.packets

pub returns-in_err-make_room-clause-unmoved : goal.returns-in_err-make_room-clause-unmoved
returns-in_err-make_room-clause-unmoved c = dropped_somewhere _ c.from_residual.result Memory c.from_residual.ensures.1

pub returns-in_err-step-clause-unmoved : goal.returns-in_err-step-clause-unmoved
returns-in_err-step-clause-unmoved c = dropped_somewhere _ c.from_residual-in_err-step.result c.in_err-step.field-0.0 c.from_residual-in_err-step.ensures.1
