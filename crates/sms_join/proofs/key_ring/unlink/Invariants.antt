use Rattle.std.proofs.Common.{ℕ, length}
use Rattle.sms_join.specs.Inside.KeyRings.{head_of, of_head, newer}
use Rattle.sms_join.proofs.RingChains.{left}
use Rattle.sms_join.proofs.RingUnlinked.{Walked}
use Rattle.sms_join.proofs.key_ring.unlink.Given as goal

abbrev pub invariant-loop-place : goal.invariant-loop-place
invariant-loop-place l =
    Walked l.next (of_head (head_of (λ (hash : ℕ). hash) (length l.heads)) l.head (newer l.oldest l.hashes)) l.oldest l.place

abbrev pub decreases-loop-place : goal.decreases-loop-place
decreases-loop-place l = left (length l.next) l.next l.place
