use Rattle.std.proofs.Common.{subst}
use Rattle.sms_world.specs.World.Standing.{ComesOfRun}
use Rattle.sms_world.proofs.world.World.comes_of_a_run.Goals as goal

pub returns : goal.returns
returns c = subst ComesOfRun c.self.view_is c.self.invariant.comes
