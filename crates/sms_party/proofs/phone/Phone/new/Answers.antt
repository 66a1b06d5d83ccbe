use Rattle.std.proofs.Common.{rules}
use Rattle.sms_party.proofs.phone.Phone.new.Goals as goal

pub returns-clause-sends : goal.returns-clause-sends
returns-clause-sends c = search rules
