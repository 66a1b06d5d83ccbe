use Rattle.std.proofs.Common.{rules}
use Rattle.sms_centre.proofs.centre.Centre.is_duplicate.Goals as goal

pub returns-then-submission : goal.returns-then-submission
returns-then-submission c = search rules
