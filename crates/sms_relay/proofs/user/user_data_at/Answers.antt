use Rattle.std.proofs.Common.{rules}
use Rattle.sms_relay.specs.Rp.UserData.{user_data}
use Rattle.sms_relay.proofs.user.user_data_at.Goals as goal

pub returns-clause-fits : goal.returns-clause-fits
returns-clause-fits c = search rules

pub returns-clause-read : goal.returns-clause-read
unfolding user_data
returns-clause-read c = search rules
