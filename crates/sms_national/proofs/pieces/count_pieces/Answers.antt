use Rattle.std.proofs.Common.{ℕ, ◌+◌, List, sym, subst}
use Rattle.sms_national.proofs.Left.{IsCounted, one_counted_more, all_counted, none_left}
use Rattle.sms_national.proofs.pieces.count_pieces.Goals as goal

pub loop-rest-preserved : goal.loop-rest-preserved
loop-rest-preserved c =
    subst (λ (l : List ℕ). IsCounted c.args.room c.args.septets.now l (c.loop-rest.count + 1)) (sym c.split_at.ensures.back)
    (one_counted_more c.args.room c.piece_len.result c.loop-rest.count c.args.septets.now c.loop-rest.rest.now c.piece_len.ensures.within c.piece_len.ensures.piece c.loop-rest.invariant)

pub returns : goal.returns
returns c = all_counted c.args.room c.loop-rest.count c.args.septets.now c.loop-rest.rest.now (none_left c.loop-rest.rest.now c.loop-rest-test.false) c.loop-rest.invariant
