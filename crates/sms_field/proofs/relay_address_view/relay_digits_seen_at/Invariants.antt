use Rattle.sms_field.proofs.RelayDigitsSeen.{Seen}
use Rattle.sms_field.proofs.relay_address_view.relay_digits_seen_at.Given as goal

abbrev pub invariant-loop : goal.invariant-loop
invariant-loop l = Seen l.octets l.count l.counter l.input.place l.input.rest l.fn.input.place
