use Rattle.std.proofs.Common.{rules}
use Rattle.sms_field.specs.RelayAddress.{relay_address_octets}
use Rattle.sms_field.proofs.relay_address.RpAddress.write_to.Goals as goal

pub returns-clause-ok : goal.returns-clause-ok
unfolding relay_address_octets
returns-clause-ok c = search rules
