use Rattle.sms_relay.specs.Inside.ReadOctetLaws.{cp_octets_are, rp_octets_are}
use Rattle.sms_relay.proofs.laws.octets_are_read.Goals as goal

pub returns-clause-cp : goal.returns-clause-cp
returns-clause-cp c = cp_octets_are

pub returns-clause-rp : goal.returns-clause-rp
returns-clause-rp c = rp_octets_are
