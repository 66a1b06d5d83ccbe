-- A fault of a field, in a message of the relay.
use Rattle.sms_field.specs.declared.fault.FieldFault.{FieldFault}
use Rattle.sms_field.specs.declared.fault.FieldFault.TheVariants as fields
use Rattle.sms_relay.specs.declared.fault.RelayFault.{RelayFault}
use Rattle.sms_relay.specs.declared.fault.RelayFault.TheVariants.{Short, BadAddress}

abbrev pub relay_fault : FieldFault → RelayFault
relay_fault fields.Short = Short
relay_fault (fields.Address why) = BadAddress
