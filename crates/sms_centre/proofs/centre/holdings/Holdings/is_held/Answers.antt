use Rattle.std.proofs.Common.{rules}
use Rattle.sms_centre.proofs.centre.holdings.Holdings.is_held.Goals as goal

pub returns : goal.returns
returns c = search rules
