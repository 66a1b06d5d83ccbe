use Rattle.std.proofs.Common.{ℕ, length, refl, ◌∙◌, arith}
use Rattle.sms_join.proofs.RingRelinked.{relinked_next, relinked_all}
use Rattle.sms_join.proofs.key_ring.relink.Goals as goal

pub loop-place-preserved : goal.loop-place-preserved
loop-place-preserved c =
    relinked_next (λ (hash : ℕ). hash) (length c.args.heads.now) c.args.hashes.now c.loop-place.next c.loop-place.heads c.link.new.next c.link.new.heads
    0 c.loop-place.place c.head_of-head.result (length c.loop-place.heads) c.loop-place.invariant
    (omega (arith, c.loop-place-test.true)) (c.loop-place.auto.next ∙ c.requires.next)
    c.head_of-head.ensures.is c.head_of-head.ensures.within refl
    c.link.ensures.next c.link.ensures.heads

pub returns : goal.returns
returns c =
    relinked_all (λ (hash : ℕ). hash) (length c.args.heads.now) c.loop-place.place c.args.hashes.now c.loop-place.next c.loop-place.heads c.loop-place.invariant
    (omega (arith, c.loop-place-test.false))
