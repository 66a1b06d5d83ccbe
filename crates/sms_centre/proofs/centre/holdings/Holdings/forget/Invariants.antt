use Rattle.std.proofs.Common.{length}
use Rattle.sms_centre.specs.Inside.Holdings.{LeavesSame}
use Rattle.sms_centre.proofs.centre.holdings.Holdings.forget.Given as goal

abbrev pub invariant-loop : goal.invariant-loop
invariant-loop l = LeavesSame l.now l.fn.self l.self

abbrev pub decreases-loop : goal.decreases-loop
decreases-loop l = length l.self.held.endings
