use Rattle.std.proofs.Common.{◌≡◌, suc, ◌<◌, ◌-◌, ◌≤◌, length, Some, None, sym, ap, subst, arith}
use Rattle.std.specs.List.{slice_get}
use Rattle.std.specs.Option.{option_map}
use Rattle.std.proofs.lemmas.Option.{slice_get_past}
use Rattle.sms_script.specs.Transcript.Lines.{PacketValue}
use Rattle.sms_script.specs.Transcript.Shown.{shown}
use Rattle.sms_world.specs.Machine.Next.{packet}
use Rattle.sms_world.specs.World.Value.{WorldValue}
use Rattle.sms_world.specs.World.Standing.{StandsFor}
use Rattle.sms_world.specs.World.Steps.{IsOctetsOf}
use Rattle.sms_world.proofs.Packets.{packet_there, octets_there}
use Rattle.sms_world.proofs.Happening.{none_at_0, none_past}
use Rattle.sms_world.proofs.world.World.packet.Goals.{then-number-eq0-via-then-number-eq0, then-number-eq0-via-else-number-eq0+then-number-len}
use Rattle.sms_world.proofs.world.World.packet.Goals as goal

pub returns-then-number-eq0-clause-carries : goal.returns-then-number-eq0-clause-carries
returns-then-number-eq0-clause-carries c = λ m stands.
    let v : WorldValue = record { limits = c.self.inside.limits; clock = c.self.inside.clock; parties = c.self.inside.parties; packets = c.self.inside.packets.items } in
    let h : StandsFor v m = subst (λ (w : WorldValue). StandsFor w m) (sym c.self.view_is) stands in
    let none : packet m c.args.number ≡ None = elim c.then-number-eq0.branch [
      | then-number-eq0-via-then-number-eq0 w ↦ none_at_0 v c.args.number (omega (arith, w.if-number-eq0.true)) m h
      | then-number-eq0-via-else-number-eq0+then-number-len w ↦ none_past v c.args.number (let size : w.len.result ≡ length v.packets = w.len.ensures in omega (arith, w.if-number-len.true, size)) m h
    ] in
    subst (λ o. IsOctetsOf o None) (sym none) tt

pub returns-clause-carries : goal.returns-clause-carries
returns-clause-carries c = λ m stands.
    let v : WorldValue = record { limits = c.self.inside.limits; clock = c.self.inside.clock; parties = c.self.inside.parties; packets = c.self.inside.packets.items } in
    let h : StandsFor v m = subst (λ (w : WorldValue). StandsFor w m) (sym c.self.view_is) stands in
    let k = c.args.number in
    let n = c.args.number - 1 in
    let num : k ≡ suc n = omega (arith, c.if-number-eq0.false) in
    let size : c.len.result ≡ length v.packets = c.len.ensures in
    let within : n < length v.packets = omega (arith, c.if-number-eq0.false, c.if-number-len.false, size) in
    let q : PacketValue = shown c.at.result in
    let there : slice_get v.packets n ≡ Some q = c.at.ensures in
    subst (λ i. IsOctetsOf (packet m i) (Some q.octets)) (sym num)
    (octets_there m (suc n) q (packet_there m v.packets n q h.packets_are there))

pub returns-then-number-eq0-clause-kept : goal.returns-then-number-eq0-clause-kept
returns-then-number-eq0-clause-kept c = λ above.
    let v : WorldValue = record { limits = c.self.inside.limits; clock = c.self.inside.clock; parties = c.self.inside.parties; packets = c.self.inside.packets.items } in
    let past : length v.packets ≤ c.args.number - 1 = elim c.then-number-eq0.branch [
      | then-number-eq0-via-then-number-eq0 w ↦ absurd (above (omega (arith, w.if-number-eq0.true)))
      | then-number-eq0-via-else-number-eq0+then-number-len w ↦ let size : w.len.result ≡ length v.packets = w.len.ensures in omega (arith, w.if-number-len.true, size)
    ] in
    subst (λ (x : WorldValue). None ≡ option_map (λ (p : PacketValue). p.octets) (slice_get x.packets (c.args.number - 1))) c.self.view_is
    (ap (option_map (λ (p : PacketValue). p.octets)) (sym (slice_get_past v.packets (c.args.number - 1) past)))

pub returns-clause-kept : goal.returns-clause-kept
returns-clause-kept c = λ above.
    let v : WorldValue = record { limits = c.self.inside.limits; clock = c.self.inside.clock; parties = c.self.inside.parties; packets = c.self.inside.packets.items } in
    let n = c.args.number - 1 in
    let size : c.len.result ≡ length v.packets = c.len.ensures in
    let within : n < length v.packets = omega (arith, c.if-number-eq0.false, c.if-number-len.false, size) in
    let q : PacketValue = shown c.at.result in
    let there : slice_get v.packets n ≡ Some q = c.at.ensures in
    subst (λ (x : WorldValue). Some q.octets ≡ option_map (λ (p : PacketValue). p.octets) (slice_get x.packets n)) c.self.view_is
    (ap (option_map (λ (p : PacketValue). p.octets)) (sym there))
