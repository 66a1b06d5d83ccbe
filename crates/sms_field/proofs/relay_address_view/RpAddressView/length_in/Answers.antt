use Rattle.std.proofs.Common.{arith}
use Rattle.sms_field.specs.Inside.ReadLengthLaws.{takes_relay_address}
use Rattle.sms_field.proofs.relay_address_view.RpAddressView.length_in.Goals as goal

pub returns-in-len1-up : goal.returns-in-len1-up
returns-in-len1-up c = takes_relay_address c.args.input.now _ (omega (arith, c.from.ensures))
