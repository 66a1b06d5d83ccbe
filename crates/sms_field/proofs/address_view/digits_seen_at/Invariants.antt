use Rattle.sms_field.proofs.DigitsSeen.{Seen}
use Rattle.sms_field.proofs.address_view.digits_seen_at.Given as goal

abbrev pub invariant-loop : goal.invariant-loop
invariant-loop l = Seen l.octets l.count l.counter l.input.place l.input.rest l.fn.input.place
