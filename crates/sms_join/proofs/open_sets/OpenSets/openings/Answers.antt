use Rattle.std.proofs.Common.{subst}
use Rattle.sms_join.specs.Inside.Turns.{AreBefore}
use Rattle.sms_join.proofs.open_sets.OpenSets.openings.Goals as goal

pub returns : goal.returns
returns c = subst (AreBefore c.self.inside.turns) c.self.view_is c.self.invariant.2.turns.before
