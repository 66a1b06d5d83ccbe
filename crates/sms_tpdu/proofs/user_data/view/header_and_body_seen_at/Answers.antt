use Rattle.std.proofs.Common.{rules}
use Rattle.sms_tpdu.specs.UserData.{user_data}
use Rattle.sms_tpdu.proofs.user_data.view.header_and_body_seen_at.Goals as goal

pub returns-clause-fits : goal.returns-clause-fits
returns-clause-fits c = search rules

pub returns-clause-read : goal.returns-clause-read
unfolding user_data
returns-clause-read c = search rules

pub returns-in_err-header-clause-read : goal.returns-in_err-header-clause-read
unfolding user_data
returns-in_err-header-clause-read c = search rules

pub returns-in_err-octets-clause-read : goal.returns-in_err-octets-clause-read
unfolding user_data
returns-in_err-octets-clause-read c = search rules
