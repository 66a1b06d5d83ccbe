use Rattle.std.proofs.Common.{◌+◌, ◌<◌, ◌^◌, length, subst, arith}
use Rattle.std.specs.List.{flat_map}
use Rattle.sms_saved.specs.Spelling.{set}
use Rattle.sms_saved.specs.Value.{view_set}
use Rattle.sms_keep.proofs.Lengths.{flat_maps, loop_len, loop_ends}
use Rattle.sms_keep.proofs.places.sets_len.Goals as goal

pub set_len-total-requires : goal.set_len-total-requires
set_len-total-requires c =
    let fits : c.args.more + length (flat_map (λ y. set (view_set y)) c.args.sets.now) < 2 ^ 64 = subst (λ l. c.args.more + length l < 2 ^ 64) (flat_maps set view_set c.args.sets.now) c.requires in
    (loop_len (λ y. set (view_set y)) c.args.sets.now c.loop-own.own-index c.own-item.result c.loop-own.total c.args.more (2 ^ 64) c.loop-own-test.true c.own-item.is c.loop-own.invariant fits).2

pub overflow_add-total : goal.overflow_add-total
overflow_add-total c =
    let fits : c.args.more + length (flat_map (λ y. set (view_set y)) c.args.sets.now) < 2 ^ 64 = subst (λ l. c.args.more + length l < 2 ^ 64) (flat_maps set view_set c.args.sets.now) c.requires in
    let h = loop_len (λ y. set (view_set y)) c.args.sets.now c.loop-own.own-index c.own-item.result c.loop-own.total c.args.more (2 ^ 64) c.loop-own-test.true c.own-item.is c.loop-own.invariant fits in
    omega (arith, h.1, c.set_len-total.ensures)

pub loop-own-preserved : goal.loop-own-preserved
loop-own-preserved c =
    let fits : c.args.more + length (flat_map (λ y. set (view_set y)) c.args.sets.now) < 2 ^ 64 = subst (λ l. c.args.more + length l < 2 ^ 64) (flat_maps set view_set c.args.sets.now) c.requires in
    let h = loop_len (λ y. set (view_set y)) c.args.sets.now c.loop-own.own-index c.own-item.result c.loop-own.total c.args.more (2 ^ 64) c.loop-own-test.true c.own-item.is c.loop-own.invariant fits in
    omega (arith, h.0, c.set_len-total.ensures)

pub returns : goal.returns
returns c =
    loop_ends set view_set c.args.sets.now c.loop-own.own-index c.loop-own.total c.args.more c.loop-own-test.false c.loop-own.invariant
