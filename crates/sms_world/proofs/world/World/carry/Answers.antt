use Rattle.std.proofs.Common.{◌≡◌, suc, ◌<◌, ◌-◌, true, not, length, Some, None, Ok, Err, subst, arith}
use Rattle.std.specs.List.{slice_get}
use Rattle.sms_text.specs.Octets.{IsOctets}
use Rattle.sms_message.specs.declared.outcome.Dropped.TheVariants.{Memory}
use Rattle.sms_script.specs.Transcript.Lines.{PacketValue}
use Rattle.sms_script.specs.Transcript.Shown.{shown}
use Rattle.sms_world.specs.Machine.{Machine}
use Rattle.sms_world.specs.Machine.Event.{Carry}
use Rattle.sms_world.specs.Machine.Next.{packet}
use Rattle.sms_world.specs.World.Standing.{StandsFor}
use Rattle.sms_world.specs.World.Value.{WorldValue}
use Rattle.sms_world.proofs.Nowhere.{dropped_somewhere}
use Rattle.sms_world.proofs.Happening.{brought_as, not_brought, nothing_brought, none_at_0, none_past, phone_within, ends_badly, badly_a_world, room, well_a_world, ends_well, puts_more, seen_still}
use Rattle.sms_world.proofs.world.World.carry.Goals.{then-number-eq0-via-then-number-eq0, then-number-eq0-via-else-number-eq0+then-number-len}
use Rattle.sms_world.proofs.world.World.carry.Goals as goal

pub returns-then-number-eq0-clause-steps : goal.returns-then-number-eq0-clause-steps
returns-then-number-eq0-clause-steps c =
    let v : WorldValue = record { limits = c.self.inside.limits; clock = c.self.inside.clock; parties = c.self.inside.parties; packets = c.self.inside.packets.items } in
    let none : (m : Machine) → StandsFor v m → packet m c.args.number ≡ None = elim c.then-number-eq0.branch [
      | then-number-eq0-via-then-number-eq0 w ↦ none_at_0 v c.args.number (omega (arith, w.if-number-eq0.true))
      | then-number-eq0-via-else-number-eq0+then-number-len w ↦ none_past v c.args.number (let size : w.len.result ≡ length v.packets = w.len.ensures in omega (arith, w.if-number-len.true, size))
    ] in
    seen_still v c.args.self.now (Carry c.args.number) _ c.self.view_is (nothing_brought v c.args.number none)

pub returns-in_err-make_room-clause-steps : goal.returns-in_err-make_room-clause-steps
returns-in_err-make_room-clause-steps c =
    let v : WorldValue = record { limits = c.self.inside.limits; clock = c.self.inside.clock; parties = c.self.inside.parties; packets = c.self.inside.packets.items } in
    let k = c.args.number in
    let n = c.args.number - 1 in
    let num : k ≡ suc n = omega (arith, c.if-number-eq0.false) in
    let size : c.len.result ≡ length v.packets = c.len.ensures in
    let within : n < length v.packets = omega (arith, c.if-number-eq0.false, c.if-number-len.false, size) in
    ends_badly v c.args.self.now (Carry k) true 0 v.parties c.make_room.new.self.items c.self.view_is c.in_err-make_room.ensures.items c.from_residual.result Memory c.from_residual.ensures.1 (not_brought v k n true 0 num within)

pub invariant_of-self-in_err-step : goal.invariant_of-self-in_err-step
invariant_of-self-in_err-step c =
    let v : WorldValue = record { limits = c.self.inside.limits; clock = c.self.inside.clock; parties = c.self.inside.parties; packets = c.self.inside.packets.items } in
    let k = c.args.number in
    let n = c.args.number - 1 in
    let num : k ≡ suc n = omega (arith, c.if-number-eq0.false) in
    let size : c.len.result ≡ length v.packets = c.len.ensures in
    let within : n < length v.packets = omega (arith, c.if-number-eq0.false, c.if-number-len.false, size) in
    let q : PacketValue = shown c.at-packet.result in
    let there : slice_get v.packets n ≡ Some q = subst (λ xs. slice_get xs n ≡ Some q) c.in_ok-make_room.ensures.items c.at-packet.ensures in
    let are : IsOctets q.octets = c.in_err-step.ensures.octets in
    badly_a_world v c.args.self.now (Carry k) (not q.is_up) q.phone c.receive.new.self c.make_room.new.self.items c.self.view_is c.in_ok-make_room.ensures.items c.in_err-step.field-0.0 c.self.invariant (brought_as v k n q num c.laws_below.ensures are there c.receive.new.self (Err c.in_err-step.field-0.0) c.in_err-step.ensures.receives) c.in_err-step.ensures.phones

pub returns-in_err-step-clause-steps : goal.returns-in_err-step-clause-steps
returns-in_err-step-clause-steps c =
    let v : WorldValue = record { limits = c.self.inside.limits; clock = c.self.inside.clock; parties = c.self.inside.parties; packets = c.self.inside.packets.items } in
    let k = c.args.number in
    let n = c.args.number - 1 in
    let num : k ≡ suc n = omega (arith, c.if-number-eq0.false) in
    let size : c.len.result ≡ length v.packets = c.len.ensures in
    let within : n < length v.packets = omega (arith, c.if-number-eq0.false, c.if-number-len.false, size) in
    let q : PacketValue = shown c.at-packet.result in
    let there : slice_get v.packets n ≡ Some q = subst (λ xs. slice_get xs n ≡ Some q) c.in_ok-make_room.ensures.items c.at-packet.ensures in
    let are : IsOctets q.octets = c.in_err-step.ensures.octets in
    ends_badly v c.args.self.now (Carry k) (not q.is_up) q.phone c.receive.new.self c.make_room.new.self.items c.self.view_is c.in_ok-make_room.ensures.items c.from_residual-in_err-step.result c.in_err-step.field-0.0 c.from_residual-in_err-step.ensures.1 (brought_as v k n q num c.laws_below.ensures are there c.receive.new.self (Err c.in_err-step.field-0.0) c.in_err-step.ensures.receives)

pub keep-requires : goal.keep-requires
keep-requires c =
    let v : WorldValue = record { limits = c.self.inside.limits; clock = c.self.inside.clock; parties = c.self.inside.parties; packets = c.self.inside.packets.items } in
    let k = c.args.number in
    let n = c.args.number - 1 in
    let num : k ≡ suc n = omega (arith, c.if-number-eq0.false) in
    let size : c.len.result ≡ length v.packets = c.len.ensures in
    let within : n < length v.packets = omega (arith, c.if-number-eq0.false, c.if-number-len.false, size) in
    let q : PacketValue = shown c.at-packet.result in
    let there : slice_get v.packets n ≡ Some q = subst (λ xs. slice_get xs n ≡ Some q) c.in_ok-make_room.ensures.items c.at-packet.ensures in
    let are : IsOctets q.octets = c.in_ok-step.ensures.octets in
    let few = room v (Carry k) (not q.is_up) q.phone c.receive.new.self c.in_ok-step.step c.self.invariant (brought_as v k n q num c.laws_below.ensures are there c.receive.new.self (Ok c.in_ok-step.step) c.in_ok-step.ensures.receives) in
    omega (arith, few, c.in_ok-make_room.ensures.room)

pub invariant_of-self-2 : goal.invariant_of-self-2
invariant_of-self-2 c =
    let v : WorldValue = record { limits = c.self.inside.limits; clock = c.self.inside.clock; parties = c.self.inside.parties; packets = c.self.inside.packets.items } in
    let k = c.args.number in
    let n = c.args.number - 1 in
    let num : k ≡ suc n = omega (arith, c.if-number-eq0.false) in
    let size : c.len.result ≡ length v.packets = c.len.ensures in
    let within : n < length v.packets = omega (arith, c.if-number-eq0.false, c.if-number-len.false, size) in
    let q : PacketValue = shown c.at-packet.result in
    let there : slice_get v.packets n ≡ Some q = subst (λ xs. slice_get xs n ≡ Some q) c.in_ok-make_room.ensures.items c.at-packet.ensures in
    let are : IsOctets q.octets = c.in_ok-step.ensures.octets in
    well_a_world v c.args.self.now (Carry k) (not q.is_up) q.phone c.receive.new.self c.make_room.new.self.items c.self.view_is c.in_ok-make_room.ensures.items c.in_ok-step.step c.keep.new.self.items c.keep.ensures.packets c.self.invariant (brought_as v k n q num c.laws_below.ensures are there c.receive.new.self (Ok c.in_ok-step.step) c.in_ok-step.ensures.receives) c.in_ok-step.ensures.phones (phone_within v n q c.self.invariant there)

pub returns-clause-steps : goal.returns-clause-steps
returns-clause-steps c =
    let v : WorldValue = record { limits = c.self.inside.limits; clock = c.self.inside.clock; parties = c.self.inside.parties; packets = c.self.inside.packets.items } in
    let k = c.args.number in
    let n = c.args.number - 1 in
    let num : k ≡ suc n = omega (arith, c.if-number-eq0.false) in
    let size : c.len.result ≡ length v.packets = c.len.ensures in
    let within : n < length v.packets = omega (arith, c.if-number-eq0.false, c.if-number-len.false, size) in
    let q : PacketValue = shown c.at-packet.result in
    let there : slice_get v.packets n ≡ Some q = subst (λ xs. slice_get xs n ≡ Some q) c.in_ok-make_room.ensures.items c.at-packet.ensures in
    let are : IsOctets q.octets = c.in_ok-step.ensures.octets in
    ends_well v c.args.self.now (Carry k) (not q.is_up) q.phone c.receive.new.self c.make_room.new.self.items c.self.view_is c.in_ok-make_room.ensures.items c.in_ok-step.step c.keep.new.self.items c.keep.ensures.packets c.keep.result c.keep.ensures.outcome (brought_as v k n q num c.laws_below.ensures are there c.receive.new.self (Ok c.in_ok-step.step) c.in_ok-step.ensures.receives)

pub returns-clause-packets : goal.returns-clause-packets
returns-clause-packets c =
    let v : WorldValue = record { limits = c.self.inside.limits; clock = c.self.inside.clock; parties = c.self.inside.parties; packets = c.self.inside.packets.items } in
    puts_more v c.args.self.now (Carry c.args.number) (not c.at-packet.result.up) c.at-packet.result.phone c.receive.new.self c.make_room.new.self.items c.self.view_is c.in_ok-make_room.ensures.items c.in_ok-step.step c.keep.new.self.items c.keep.ensures.packets

pub returns-in_err-make_room-clause-unmoved : goal.returns-in_err-make_room-clause-unmoved
returns-in_err-make_room-clause-unmoved c = dropped_somewhere _ c.from_residual.result Memory c.from_residual.ensures.1

pub returns-in_err-step-clause-unmoved : goal.returns-in_err-step-clause-unmoved
returns-in_err-step-clause-unmoved c = dropped_somewhere _ c.from_residual-in_err-step.result c.in_err-step.field-0.0 c.from_residual-in_err-step.ensures.1
