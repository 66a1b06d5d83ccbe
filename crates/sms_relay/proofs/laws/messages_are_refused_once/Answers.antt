use Rattle.sms_relay.specs.Inside.OneRefusalLaws.{cp_refused_once, rp_refused_once}
use Rattle.sms_relay.proofs.laws.messages_are_refused_once.Goals as goal

pub returns-clause-cp : goal.returns-clause-cp
returns-clause-cp c = cp_refused_once

pub returns-clause-rp : goal.returns-clause-rp
returns-clause-rp c = rp_refused_once
