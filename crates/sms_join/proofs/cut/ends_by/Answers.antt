use Rattle.std.proofs.Common.{◌≡◌, ℕ, length, subst, arith}
use Rattle.sms_join.specs.UnitsOfText.{numbers}
use Rattle.sms_join.specs.Inside.SegmentsAt.{RiseTo, pieces_at}
use Rattle.sms_join.proofs.CutPlaces.{all_parted}
use Rattle.sms_join.proofs.Ends.{nothing_ends, one_end_more}
use Rattle.sms_join.proofs.cut.ends_by.Goals as goal

pub loop-start-init : goal.loop-start-init
loop-start-init c = rw c.in_ok-ends.ensures.items (nothing_ends c.args.units.now c.args.room)

pub loop-start-preserved : goal.loop-start-preserved
loop-start-preserved c =
    rw c.in_ok-push.ensures.items
    (one_end_more c.args.units.now c.args.room c.loop-start.start c.piece_end-start.result c.loop-start.ends.items
    (omega (arith, c.loop-start-test.true, c.len-count.ensures)) c.requires (c.piece_end-start.ensures.last, c.piece_end-start.ensures.other) c.loop-start.invariant)

pub returns-clause-parted : goal.returns-clause-parted
returns-clause-parted c text is e =
    all_parted c.args.units.now c.args.room c.loop-start.start (pieces_at c.args.units.now 0 c.loop-start.ends.items) text is c.requires e (omega (arith, c.loop-start-test.false, c.len-count.ensures)) c.loop-start.invariant.parted

pub returns-clause-rising : goal.returns-clause-rising
returns-clause-rising c =
    let whole : c.loop-start.start ≡ length (numbers c.args.units.now) = omega (arith, c.loop-start-test.false, c.len-count.ensures, c.loop-start.invariant.parted.inside) in
    subst (λ (n : ℕ). RiseTo 0 c.loop-start.ends.items n) whole c.loop-start.invariant.rising
