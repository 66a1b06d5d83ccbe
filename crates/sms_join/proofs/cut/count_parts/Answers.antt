use Rattle.std.proofs.Common.{arith}
use Rattle.sms_join.proofs.CutPlaces.{nothing_counted, one_counted_more, all_counted}
use Rattle.sms_join.proofs.cut.count_parts.Goals as goal

pub loop-start-init : goal.loop-start-init
loop-start-init c = nothing_counted c.args.units.now c.args.room

pub loop-start-preserved : goal.loop-start-preserved
loop-start-preserved c =
    one_counted_more c.args.units.now c.args.room c.loop-start.start c.piece_end-start.result c.loop-start.parts
    (omega (arith, c.loop-start-test.true, c.len-count.ensures)) c.requires (c.piece_end-start.ensures.last, c.piece_end-start.ensures.other) c.loop-start.invariant

pub returns : goal.returns
returns c text is e =
    all_counted c.args.units.now c.args.room c.loop-start.start c.loop-start.parts text is c.requires e (omega (arith, c.loop-start-test.false, c.len-count.ensures)) c.loop-start.invariant
