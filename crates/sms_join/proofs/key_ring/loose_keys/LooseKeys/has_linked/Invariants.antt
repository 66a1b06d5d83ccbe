use Rattle.std.proofs.Common.{length, take, reverse}
use Rattle.sms_join.specs.Joiner.{is_among}
use Rattle.sms_join.proofs.LooseSearch.{loose}
use Rattle.sms_join.proofs.RingChains.{left}
use Rattle.sms_join.proofs.RingSearch.{Sought}
use Rattle.sms_join.proofs.key_ring.loose_keys.LooseKeys.has_linked.Given as goal

abbrev pub invariant-loop-place : goal.invariant-loop-place
invariant-loop-place l =
    Sought (take (length l.self-inside.next.items) l.self-inside.keys.items) l.self-inside.next.items (is_among (reverse (take l.self.linked l.self.keys)) l.key)
    (loose l.key (take (length l.self-inside.next.items) l.self-inside.keys.items)) l.place

abbrev pub decreases-loop-place : goal.decreases-loop-place
decreases-loop-place l = left (length l.self-inside.next.items) l.self-inside.next.items l.place
