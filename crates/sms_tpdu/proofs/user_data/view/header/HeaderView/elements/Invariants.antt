use Rattle.std.proofs.Common.{length}
use Rattle.sms_tpdu.proofs.ElementWalk.{Passed}
use Rattle.sms_tpdu.proofs.user_data.view.header.HeaderView.elements.Given as goal

abbrev pub invariant-loop-rest : goal.invariant-loop-rest
invariant-loop-rest l = Passed l.header l.rest

abbrev pub decreases-loop-rest : goal.decreases-loop-rest
decreases-loop-rest l = length l.rest
