use Rattle.std.proofs.Common.{rules}
use Rattle.sms_tpdu.specs.UserData.Header.{header}
use Rattle.sms_tpdu.proofs.user_data.view.header.HeaderViewView.read_at.Goals as goal

pub returns-in_err-octets : goal.returns-in_err-octets
unfolding header
returns-in_err-octets c = search rules

pub new-requires : goal.new-requires
new-requires c = search rules
