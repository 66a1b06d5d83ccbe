use Rattle.sms_keep.proofs.TelephonesRead.{Read}
use Rattle.sms_keep.proofs.telephones.digits_from.Given as goal

-- so many octets are written of the digits so far
abbrev pub invariant-loop-place : goal.invariant-loop-place
invariant-loop-place l = Read l.symbols l.values l.place
