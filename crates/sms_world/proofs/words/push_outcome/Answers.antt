use Rattle.std.proofs.Common.{rules}
use Rattle.sms_world.proofs.words.push_outcome.Goals as goal

pub returns : goal.returns
returns c = search rules
