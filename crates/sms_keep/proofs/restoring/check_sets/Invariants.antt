use Rattle.std.proofs.Common.{take}
use Rattle.sms_saved.specs.Value.{view_sets}
use Rattle.sms_keep.specs.Held.{SetsHaveAddresses}
use Rattle.sms_keep.proofs.restoring.check_sets.Given as goal

abbrev pub invariant-loop-before : goal.invariant-loop-before
invariant-loop-before l = SetsHaveAddresses (take l.before (view_sets l.state.sets.items))
