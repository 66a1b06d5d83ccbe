use Rattle.sms_keep.proofs.TelephonesWritten.{Paired}
use Rattle.sms_keep.proofs.telephone_octets.in_pairs.Given as goal

-- so many octets are written of the digits, behind the first two
abbrev pub invariant-loop-place : goal.invariant-loop-place
invariant-loop-place l = Paired l.first l.second l.digits l.octets l.place
