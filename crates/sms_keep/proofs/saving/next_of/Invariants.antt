use Rattle.std.proofs.Common.{◌≡◌, ◌<◌, ◌^◌}
use Rattle.sms_keep.proofs.Spelled.{after}
use Rattle.sms_keep.proofs.saving.next_of.Given as goal

abbrev pub invariant-loop-set : goal.invariant-loop-set
invariant-loop-set l = (after l.next l.set-iterator ≡ after 0 l.fn.sets) × (l.next < 2 ^ 64)
