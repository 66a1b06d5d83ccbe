use Rattle.std.proofs.Common.{length}
use Rattle.sms_text.specs.Bits.{AreSeptets}
use Rattle.sms_national.proofs.Left.{IsLeft}
use Rattle.sms_national.proofs.pieces.pieces_by.Given as goal

abbrev pub invariant-loop-rest : goal.invariant-loop-rest
invariant-loop-rest l = IsLeft l.room l.fn.septets l.pieces.items l.rest × AreSeptets l.rest

abbrev pub decreases-loop-rest : goal.decreases-loop-rest
decreases-loop-rest l = length l.rest
