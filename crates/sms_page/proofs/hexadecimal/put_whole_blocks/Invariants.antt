use Rattle.std.proofs.Common.{◌-◌, ◌≤◌, length}
use Rattle.sms_page.proofs.HexReads.{PairsSoFar}
use Rattle.sms_page.proofs.hexadecimal.put_whole_blocks.Given as goal

abbrev pub invariant-loop-octets : goal.invariant-loop-octets
invariant-loop-octets l = (l.at ≤ length l.octets) × PairsSoFar l.digits l.octets l.at

abbrev pub decreases-loop-octets : goal.decreases-loop-octets
decreases-loop-octets l = length l.octets - l.at
