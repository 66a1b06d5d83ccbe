use Rattle.sms_relay.proofs.ReadMessages.{has_cp, has_rp}
use Rattle.sms_relay.proofs.laws.what_is_read_is_spelled.Goals as goal

pub returns-clause-cp : goal.returns-clause-cp
returns-clause-cp c = has_cp

pub returns-clause-rp : goal.returns-clause-rp
returns-clause-rp c = has_rp
