use Rattle.sms_page.proofs.HexReads.{IsReadTo}
use Rattle.sms_page.proofs.hexadecimal.put_one_by_one.Given as goal

abbrev pub invariant-loop-place : goal.invariant-loop-place
invariant-loop-place l = IsReadTo l.has_blanks l.digits l.octets l.count l.high l.place
