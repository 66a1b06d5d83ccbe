use Rattle.std.proofs.Common.{◌+◌, ◌<◌, ◌^◌, length, subst, arith}
use Rattle.std.specs.List.{flat_map}
use Rattle.sms_saved.specs.Spelling.{place}
use Rattle.sms_saved.specs.Value.{view_place}
use Rattle.sms_keep.proofs.Lengths.{flat_maps, loop_len, loop_ends}
use Rattle.sms_keep.proofs.places.places_len.Goals as goal

pub place_len-total-requires : goal.place_len-total-requires
place_len-total-requires c =
    let fits : c.args.more + length (flat_map (λ y. place (view_place y)) c.args.places.now) < 2 ^ 64 = subst (λ l. c.args.more + length l < 2 ^ 64) (flat_maps place view_place c.args.places.now) c.requires in
    (loop_len (λ y. place (view_place y)) c.args.places.now c.loop-own.own-index c.own-item.result c.loop-own.total c.args.more (2 ^ 64) c.loop-own-test.true c.own-item.is c.loop-own.invariant fits).2

pub overflow_add-total : goal.overflow_add-total
overflow_add-total c =
    let fits : c.args.more + length (flat_map (λ y. place (view_place y)) c.args.places.now) < 2 ^ 64 = subst (λ l. c.args.more + length l < 2 ^ 64) (flat_maps place view_place c.args.places.now) c.requires in
    let h = loop_len (λ y. place (view_place y)) c.args.places.now c.loop-own.own-index c.own-item.result c.loop-own.total c.args.more (2 ^ 64) c.loop-own-test.true c.own-item.is c.loop-own.invariant fits in
    omega (arith, h.1, c.place_len-total.ensures)

pub loop-own-preserved : goal.loop-own-preserved
loop-own-preserved c =
    let fits : c.args.more + length (flat_map (λ y. place (view_place y)) c.args.places.now) < 2 ^ 64 = subst (λ l. c.args.more + length l < 2 ^ 64) (flat_maps place view_place c.args.places.now) c.requires in
    let h = loop_len (λ y. place (view_place y)) c.args.places.now c.loop-own.own-index c.own-item.result c.loop-own.total c.args.more (2 ^ 64) c.loop-own-test.true c.own-item.is c.loop-own.invariant fits in
    omega (arith, h.0, c.place_len-total.ensures)

pub returns : goal.returns
returns c =
    loop_ends place view_place c.args.places.now c.loop-own.own-index c.loop-own.total c.args.more c.loop-own-test.false c.loop-own.invariant
