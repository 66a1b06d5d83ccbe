-- What the laws of addresses rest on.
use Rattle.sms_field.specs.Inside.AddressLengthLaws.{address_few, relay_address_few}
use Rattle.sms_field.specs.Inside.AddressLaws.{address_lawful, address_self}
use Rattle.sms_field.specs.Inside.AddressSpelling.{address_are_octets, address_again}
use Rattle.sms_field.specs.Inside.RelayAddressLaws.{relay_address_lawful, relay_address_self, relay_address_are_octets, relay_address_again}

pub ruleset address_rules = (address_few, address_lawful, address_self, address_are_octets, address_again)

pub ruleset relay_address_rules = (relay_address_few, relay_address_lawful, relay_address_self, relay_address_are_octets, relay_address_again)
