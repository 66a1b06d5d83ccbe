use Rattle.std.proofs.Common.{arith}
use Rattle.sms_join.proofs.RingUnlinked.{oldest_in, front_at, first_at, within_at, next_at, last_at}
use Rattle.sms_join.proofs.key_ring.unlink.Goals as goal

pub returns-then-place-oldest : goal.returns-then-place-oldest
returns-then-place-oldest c =
    front_at (oldest_in c.args.hashes.now c.args.next.now c.args.heads.now c.args.oldest c.head_of-head.result c.requires.there c.requires.lie c.requires.apart c.requires.linked c.requires.next c.requires.small
    c.head_of-head.ensures.is c.head_of-head.ensures.within) c.head_of-head.result c.head_of-head.ensures.is c.if-place-oldest.true

pub loop-place-init : goal.loop-place-init
loop-place-init c =
    first_at (oldest_in c.args.hashes.now c.args.next.now c.args.heads.now c.args.oldest c.head_of-head.result c.requires.there c.requires.lie c.requires.apart c.requires.linked c.requires.next c.requires.small
    c.head_of-head.ensures.is c.head_of-head.ensures.within) c.head_of-head.result c.head_of-head.ensures.is c.if-place-oldest.false

pub offset_bounds-next-place : goal.offset_bounds-next-place
offset_bounds-next-place c =
    let w = within_at (oldest_in c.args.hashes.now c.args.next.now c.args.heads.now c.args.oldest c.head_of-head.result c.requires.there c.requires.lie c.requires.apart c.requires.linked c.requires.next c.requires.small
    c.head_of-head.ensures.is c.head_of-head.ensures.within) c.head_of-head.result c.head_of-head.ensures.is c.loop-place.place c.loop-place.invariant in let small = c.requires.small in
    omega (arith, w.1)

pub bounds-next-place : goal.bounds-next-place
bounds-next-place c =
    let w = within_at (oldest_in c.args.hashes.now c.args.next.now c.args.heads.now c.args.oldest c.head_of-head.result c.requires.there c.requires.lie c.requires.apart c.requires.linked c.requires.next c.requires.small
    c.head_of-head.ensures.is c.head_of-head.ensures.within) c.head_of-head.result c.head_of-head.ensures.is c.loop-place.place c.loop-place.invariant in let small = c.requires.small in
    omega (arith, w.1)

pub offset_bounds-next-place-in-loop-place : goal.offset_bounds-next-place-in-loop-place
offset_bounds-next-place-in-loop-place c =
    let w = within_at (oldest_in c.args.hashes.now c.args.next.now c.args.heads.now c.args.oldest c.head_of-head.result c.requires.there c.requires.lie c.requires.apart c.requires.linked c.requires.next c.requires.small
    c.head_of-head.ensures.is c.head_of-head.ensures.within) c.head_of-head.result c.head_of-head.ensures.is c.loop-place.place c.loop-place.invariant in let small = c.requires.small in
    omega (arith, w.1)

pub bounds-next-place-in-loop-place : goal.bounds-next-place-in-loop-place
bounds-next-place-in-loop-place c =
    let w = within_at (oldest_in c.args.hashes.now c.args.next.now c.args.heads.now c.args.oldest c.head_of-head.result c.requires.there c.requires.lie c.requires.apart c.requires.linked c.requires.next c.requires.small
    c.head_of-head.ensures.is c.head_of-head.ensures.within) c.head_of-head.result c.head_of-head.ensures.is c.loop-place.place c.loop-place.invariant in let small = c.requires.small in
    omega (arith, w.1)

pub offset_bounds-next-place-2 : goal.offset_bounds-next-place-2
offset_bounds-next-place-2 c =
    let w = within_at (oldest_in c.args.hashes.now c.args.next.now c.args.heads.now c.args.oldest c.head_of-head.result c.requires.there c.requires.lie c.requires.apart c.requires.linked c.requires.next c.requires.small
    c.head_of-head.ensures.is c.head_of-head.ensures.within) c.head_of-head.result c.head_of-head.ensures.is c.loop-place.place c.loop-place.invariant in let small = c.requires.small in
    omega (arith, w.1)

pub bounds-next-place-2 : goal.bounds-next-place-2
bounds-next-place-2 c =
    let w = within_at (oldest_in c.args.hashes.now c.args.next.now c.args.heads.now c.args.oldest c.head_of-head.result c.requires.there c.requires.lie c.requires.apart c.requires.linked c.requires.next c.requires.small
    c.head_of-head.ensures.is c.head_of-head.ensures.within) c.head_of-head.result c.head_of-head.ensures.is c.loop-place.place c.loop-place.invariant in let small = c.requires.small in
    omega (arith, w.1)

pub loop-place-smaller : goal.loop-place-smaller
loop-place-smaller c =
    (next_at (oldest_in c.args.hashes.now c.args.next.now c.args.heads.now c.args.oldest c.head_of-head.result c.requires.there c.requires.lie c.requires.apart c.requires.linked c.requires.next c.requires.small
    c.head_of-head.ensures.is c.head_of-head.ensures.within) c.head_of-head.result c.head_of-head.ensures.is c.loop-place.place c.loop-place.invariant c.loop-place-test.true).1

pub loop-place-preserved : goal.loop-place-preserved
loop-place-preserved c =
    (next_at (oldest_in c.args.hashes.now c.args.next.now c.args.heads.now c.args.oldest c.head_of-head.result c.requires.there c.requires.lie c.requires.apart c.requires.linked c.requires.next c.requires.small
    c.head_of-head.ensures.is c.head_of-head.ensures.within) c.head_of-head.result c.head_of-head.ensures.is c.loop-place.place c.loop-place.invariant c.loop-place-test.true).0

pub returns : goal.returns
returns c =
    last_at (oldest_in c.args.hashes.now c.args.next.now c.args.heads.now c.args.oldest c.head_of-head.result c.requires.there c.requires.lie c.requires.apart c.requires.linked c.requires.next c.requires.small
    c.head_of-head.ensures.is c.head_of-head.ensures.within) c.head_of-head.result c.head_of-head.ensures.is c.loop-place.place c.loop-place.invariant c.loop-place-test.false
