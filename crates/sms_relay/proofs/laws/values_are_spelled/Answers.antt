use Rattle.std.proofs.Common.{refl}
use Rattle.sms_relay.specs.Cp.{cp_octets}
use Rattle.sms_relay.specs.Rp.{rp_octets}
use Rattle.sms_relay.proofs.laws.values_are_spelled.Goals as goal

pub returns-clause-cp : goal.returns-clause-cp
returns-clause-cp c = λ m is. (cp_octets m, (is, refl))

pub returns-clause-rp : goal.returns-clause-rp
returns-clause-rp c = λ m is. (rp_octets m, (is, refl))
