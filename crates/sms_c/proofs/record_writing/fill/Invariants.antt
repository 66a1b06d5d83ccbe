use Rattle.std.proofs.Common.{length, ◌-◌}
use Rattle.sms_c.proofs.RecordFills.{Filled}
use Rattle.sms_c.proofs.record_writing.fill.Given as goal

abbrev pub invariant-loop-octets : goal.invariant-loop-octets
invariant-loop-octets l = Filled l.fn.octets.items l.octets.items

abbrev pub decreases-loop-octets : goal.decreases-loop-octets
decreases-loop-octets l = 176 - length l.octets.items
