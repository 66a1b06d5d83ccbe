use Rattle.sms_field.specs.Inside.OneRefusalLaws.{address_refused_once, relay_address_refused_once}
use Rattle.sms_field.proofs.laws.addresses_are_refused_once.Goals as goal

pub returns-clause-transfer : goal.returns-clause-transfer
returns-clause-transfer c = address_refused_once

pub returns-clause-relay : goal.returns-clause-relay
returns-clause-relay c = relay_address_refused_once
