use Rattle.std.proofs.Common.{length, ◌-◌}
use Rattle.sms_card.proofs.Filled.{Filled}
use Rattle.sms_card.proofs.stored.writing.fill.Given as goal

abbrev pub invariant-loop-out : goal.invariant-loop-out
invariant-loop-out l = Filled l.fn.out.items l.out.items

abbrev pub decreases-loop-out : goal.decreases-loop-out
decreases-loop-out l = 176 - length l.out.items
