use Rattle.std.proofs.Common.{◌≢◌}
use Rattle.sms_page.proofs.HexReads.{PairsSoFar}
use Rattle.sms_page.proofs.hexadecimal.put_pairs.Given as goal

abbrev pub invariant-loop-at : goal.invariant-loop-at
invariant-loop-at l = l.seen ≢ 255 → PairsSoFar l.digits l.octets l.at
