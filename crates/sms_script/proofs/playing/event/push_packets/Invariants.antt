use Rattle.std.proofs.Common.{◌≡◌, ◌+◌, ◌++◌, drop}
use Rattle.sms_script.specs.Transcript.{packet_lines}
use Rattle.sms_script.proofs.playing.event.push_packets.Given as goal

abbrev pub invariant-loop-place : goal.invariant-loop-place
invariant-loop-place g l =
    l.out.items ++ packet_lines l.script.is_brief l.script.known.names (l.place + 1) (drop l.place (g.N.Network.conduct.put_out l.network))
    ≡ l.fn.out.items ++ packet_lines l.script.is_brief l.script.known.names (l.first + 1) (drop l.first (g.N.Network.conduct.put_out l.network))
