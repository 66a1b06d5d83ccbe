use Rattle.std.proofs.Common.{◌-◌, arith, rules}
use Rattle.sms_field.specs.RelayAddress.{relay_address, relay_part}
use Rattle.sms_field.proofs.RelayDigitLoop.{relay_digits_are}
use Rattle.sms_field.proofs.relay_address_view.RpAddressView.read_at.Goals as goal

pub address_seen-requires-clause-digits : goal.address_seen-requires-clause-digits
address_seen-requires-clause-digits c = relay_digits_are (c.in_ok-count.count - 1) _ _ _ _ _ (omega (arith, c.in_ok-count.ensures.few)) c.in_ok-octets.ensures.read

pub returns-then-count-eq0 : goal.returns-then-count-eq0
unfolding relay_address relay_part
returns-then-count-eq0 c = search rules
