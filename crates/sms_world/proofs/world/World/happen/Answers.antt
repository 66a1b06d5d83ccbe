use Rattle.std.proofs.Common.{rules}
use Rattle.sms_world.proofs.world.World.happen.Goals as goal

pub returns-in-Inject-clause-steps : goal.returns-in-Inject-clause-steps
returns-in-Inject-clause-steps c = search rules
