use Rattle.std.proofs.Common.{length}
use Rattle.sms_national.proofs.Left.{IsCounted}
use Rattle.sms_national.proofs.pieces.count_pieces.Given as goal

abbrev pub invariant-loop-rest : goal.invariant-loop-rest
invariant-loop-rest l = IsCounted l.room l.fn.septets l.rest l.count

abbrev pub decreases-loop-rest : goal.decreases-loop-rest
decreases-loop-rest l = length l.rest
