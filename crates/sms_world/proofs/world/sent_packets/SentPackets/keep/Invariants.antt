use Rattle.std.proofs.Common.{◌≡◌, ◌≤◌, ◌++◌, length, map}
use Rattle.sms_message.specs.Does.{packets_of}
use Rattle.sms_world.specs.Inside.Parties.{on_way}
use Rattle.sms_world.proofs.world.sent_packets.SentPackets.keep.Given as goal

abbrev pub invariant-loop-octets : goal.invariant-loop-octets
invariant-loop-octets l =
    (l.self.items ++ on_way l.up l.phone (map (λ p. p.items) l.octets-iterator) ≡ l.fn.self.items ++ on_way l.up l.phone (packets_of l.fn.step))
    × (length l.octets-iterator ≤ l.self.room)
