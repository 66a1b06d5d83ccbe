use Rattle.std.proofs.Common.{rules}
use Rattle.sms_field.specs.Address.{address}
use Rattle.sms_field.proofs.address_view.AddressView.read_at.Goals as goal

pub returns-in_err-address_type-clause-read : goal.returns-in_err-address_type-clause-read
unfolding address
returns-in_err-address_type-clause-read c = search rules

pub symbols_seen_at-requires : goal.symbols_seen_at-requires
symbols_seen_at-requires c = search rules

pub returns-in_err-octets-clause-read : goal.returns-in_err-octets-clause-read
unfolding address
returns-in_err-octets-clause-read c = search rules

pub invariant_of-result : goal.invariant_of-result
invariant_of-result c = search rules

pub returns-clause-read : goal.returns-clause-read
unfolding address
returns-clause-read c = search rules
