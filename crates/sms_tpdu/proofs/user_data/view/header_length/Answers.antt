use Rattle.std.proofs.Common.{rules}
use Rattle.sms_tpdu.proofs.user_data.view.header_length.Goals as goal

pub returns-clause-room : goal.returns-clause-room
returns-clause-room c = search rules

pub returns-clause-is : goal.returns-clause-is
returns-clause-is c = search rules
