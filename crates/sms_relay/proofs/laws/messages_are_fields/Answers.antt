use Rattle.sms_relay.specs.Inside.CpLaws.{cp_laws}
use Rattle.sms_relay.specs.Inside.RpLaws.{rp_laws}
use Rattle.sms_relay.proofs.laws.messages_are_fields.Goals as goal

pub returns-clause-cp : goal.returns-clause-cp
returns-clause-cp c = cp_laws

pub returns-clause-rp : goal.returns-clause-rp
returns-clause-rp c = rp_laws
