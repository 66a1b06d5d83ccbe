use Rattle.std.proofs.Common.{ℕ, take, length}
use Rattle.sms_join.proofs.RingRelinked.{Relinked}
use Rattle.sms_join.proofs.key_ring.relink.Given as goal

abbrev pub invariant-loop-place : goal.invariant-loop-place
invariant-loop-place l = Relinked (λ (hash : ℕ). hash) (length l.fn.heads) (take l.place l.hashes) l.next l.heads
