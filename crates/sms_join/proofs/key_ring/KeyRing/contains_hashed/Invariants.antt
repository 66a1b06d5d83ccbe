use Rattle.std.proofs.Common.{length, take}
use Rattle.std.specs.Prelude.{option_copied}
use Rattle.sms_join.specs.Piece.{key_to}
use Rattle.sms_join.specs.Joiner.{is_among}
use Rattle.sms_join.specs.Inside.KeyRings.{laid}
use Rattle.sms_join.proofs.RingChains.{left}
use Rattle.sms_join.proofs.RingSearch.{Sought, asked}
use Rattle.sms_join.proofs.key_ring.KeyRing.contains_hashed.Given as goal

abbrev pub invariant-loop-place : goal.invariant-loop-place
invariant-loop-place l =
    Sought (laid l.self-inside.oldest l.self-inside.keys.items) l.self-inside.next.items (is_among (take l.last l.self.keys) (key_to (option_copied l.to) l.origin l.stamp l.concat))
    (asked (key_to (option_copied l.to) l.origin l.stamp l.concat) l.last l.self-inside.oldest l.self-inside.keys.items) l.place

abbrev pub decreases-loop-place : goal.decreases-loop-place
decreases-loop-place l = left (length l.self-inside.next.items) l.self-inside.next.items l.place
