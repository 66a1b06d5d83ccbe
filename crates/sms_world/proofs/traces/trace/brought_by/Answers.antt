use Rattle.std.proofs.Common.{◌≡◌, ℕ, ◌-◌, ◌<◌, ◌≤◌, Some, None, length, refl, sym, ap, ◌∙◌, subst, arith}
use Rattle.std.specs.List.{slice_get}
use Rattle.std.specs.Option.{option_map}
use Rattle.sms_script.specs.Transcript.Shown.{shown}
use Rattle.sms_world.specs.Machine.Event.{Carry}
use Rattle.sms_world.specs.World.Steps.{event_of}
use Rattle.sms_world.proofs.Packets.{no_packet_0}
use Rattle.sms_world.proofs.TraceSeen.{none_brought, no_packet, none_at, some_brought}
use Rattle.sms_world.proofs.traces.trace.brought_by.Goals.{then-number-eq0-via-then-number-eq0, then-number-eq0-via-else-number-eq0+then-number-packet_count}
use Rattle.sms_world.proofs.traces.trace.brought_by.Goals as goal

pub returns-then-number-eq0 : goal.returns-then-number-eq0
returns-then-number-eq0 c = λ m s.
    elim c.then-number-eq0.branch [
      | then-number-eq0-via-then-number-eq0 w ↦
          none_brought c.args.world.now m s (event_of c.args.event.now) 0 (ap event_of c.in-Carry.is ∙ ap (λ k. Carry k) w.if-number-eq0.true) (no_packet_0 m)
      | then-number-eq0-via-else-number-eq0+then-number-packet_count w ↦
          let l = w.packet_count.ensures in
          let t = w.if-number-packet_count.true in
          none_brought c.args.world.now m s (event_of c.args.event.now) c.in-Carry.number (ap event_of c.in-Carry.is) (no_packet c.args.world.now m s c.in-Carry.number (omega (arith, l, t)))
    ]

pub returns-in_err-packet : goal.returns-in_err-packet
returns-in_err-packet c = λ m s.
    let z = c.if-number-eq0.false in
    c.from_residual.ensures ∙ none_brought c.args.world.now m s (event_of c.args.event.now) c.in-Carry.number (ap event_of c.in-Carry.is)
    (none_at c.args.world.now m s c.in-Carry.number (omega (arith, z)) (sym c.packet_on_way.ensures ∙ ap (option_map shown) c.in_err-packet.was))

pub returns : goal.returns
returns c = λ m s.
    let z = c.if-number-eq0.false in
    some_brought c.args.world.now m s (event_of c.args.event.now) c.in-Carry.number (ap event_of c.in-Carry.is) (omega (arith, z)) (shown c.in_ok-packet.packet)
    (sym c.packet_on_way.ensures ∙ ap (option_map shown) c.in_ok-packet.was) c.seen_in.result c.seen_in.ensures
