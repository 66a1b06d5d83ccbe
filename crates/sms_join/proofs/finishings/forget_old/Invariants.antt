use Rattle.std.proofs.Common.{◌≡◌, length}
use Rattle.sms_join.proofs.FallingMoments.{Goes}
use Rattle.sms_join.proofs.finishings.forget_old.Given as goal

abbrev pub invariant-loop-moment : goal.invariant-loop-moment
invariant-loop-moment l = Goes l.age l.fn.finishings.items l.finishings.items × (l.finishings.capacity ≡ l.fn.finishings.capacity)

abbrev pub decreases-loop-moment : goal.decreases-loop-moment
decreases-loop-moment l = length l.finishings.items
