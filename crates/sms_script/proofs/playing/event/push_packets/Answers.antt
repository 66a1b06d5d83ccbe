use Rattle.std.proofs.Common.{◌≡◌, ◌+◌, ◌-◌, ◌≤◌, length, refl, sym, arith, List}
use Rattle.sms_script.proofs.PacketLemmas.{packet_lines-more, packet_lines-end}
use Rattle.sms_script.specs.Transcript.Lines.{PacketValue}
use Rattle.sms_script.specs.Transcript.Shown.{shown}
use Rattle.sms_script.proofs.playing.event.push_packets.Goals as goal

pub loop-place-preserved : goal.loop-place-preserved
loop-place-preserved g c =
    let all : List PacketValue = g.N.Network.conduct.put_out c.args.network.now in
    let is : c.loop-place.place + 1 - 1 ≡ c.loop-place.place = omega arith in
    let there = sym (rw is at c.in-Some.ensures) in
    packet_lines-more c.args.script.now.is_brief c.args.script.now.known.names c.loop-place.place all (shown c.in-Some.packet) _ _ _ there
    (rw (c.in_ok-push_packet_line.ensures, c.is_brief.ensures, c.name-name.ensures) refl)
    c.loop-place.invariant

pub returns : goal.returns
returns g c =
    let all : List PacketValue = g.N.Network.conduct.put_out c.args.network.now in
    let count = c.packet_count-place-end.ensures in
    let past : length all ≤ c.loop-place.place = omega (arith, count) in
    packet_lines-end c.args.script.now.is_brief c.args.script.now.known.names c.loop-place.place all _ _ past c.loop-place.invariant
