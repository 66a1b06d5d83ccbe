use Rattle.sms_field.specs.Inside.ReadAddressLaws.{has_address, has_relay_address}
use Rattle.sms_field.proofs.laws.what_is_read_is_spelled.Goals as goal

pub returns-clause-transfer : goal.returns-clause-transfer
returns-clause-transfer c = has_address

pub returns-clause-relay : goal.returns-clause-relay
returns-clause-relay c = has_relay_address
