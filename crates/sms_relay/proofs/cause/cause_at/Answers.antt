use Rattle.std.proofs.Common.{rules}
use Rattle.sms_relay.specs.Rp.Cause.{rp_cause}
use Rattle.sms_relay.proofs.cause.cause_at.Goals as goal

pub returns-clause-fits : goal.returns-clause-fits
returns-clause-fits c = search rules

pub returns-clause-read : goal.returns-clause-read
unfolding rp_cause
returns-clause-read c = search rules
