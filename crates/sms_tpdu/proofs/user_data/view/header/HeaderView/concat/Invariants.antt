use Rattle.std.proofs.Common.{length}
use Rattle.sms_tpdu.proofs.ElementLaws.{Reached}
use Rattle.sms_tpdu.proofs.user_data.view.header.HeaderView.concat.Given as goal

abbrev pub invariant-loop-rest : goal.invariant-loop-rest
invariant-loop-rest l = Reached l.self l.rest l.last

abbrev pub decreases-loop-rest : goal.decreases-loop-rest
decreases-loop-rest l = length l.rest
