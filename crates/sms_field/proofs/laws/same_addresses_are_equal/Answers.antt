use Rattle.sms_field.specs.Inside.SameAddressLaws.{same_address_refl, same_address_is_equal, same_address_symmetric, same_address_transitive}
use Rattle.sms_field.proofs.laws.same_addresses_are_equal.Goals as goal

pub returns-clause-equal : goal.returns-clause-equal
returns-clause-equal c = same_address_is_equal

pub returns-clause-reflexive : goal.returns-clause-reflexive
returns-clause-reflexive c = same_address_refl

pub returns-clause-symmetric : goal.returns-clause-symmetric
returns-clause-symmetric c = same_address_symmetric

pub returns-clause-transitive : goal.returns-clause-transitive
returns-clause-transitive c = same_address_transitive
