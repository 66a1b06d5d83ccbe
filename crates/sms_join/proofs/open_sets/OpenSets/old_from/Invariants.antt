use Rattle.std.proofs.Common.{◌≡◌, ◌-◌}
use Rattle.sms_join.specs.OpenSets.Told.{first_from}
use Rattle.sms_join.specs.Inside.Ages.{old_of}
use Rattle.sms_join.specs.Inside.Turns.{arranged}
use Rattle.sms_join.proofs.open_sets.OpenSets.old_from.Given as goal

abbrev pub invariant-loop-set : goal.invariant-loop-set
invariant-loop-set l =
    first_from l.turn (old_of l.age (arranged l.self)) ≡ first_from l.next (old_of l.age (arranged l.self))

abbrev pub decreases-loop-set : goal.decreases-loop-set
decreases-loop-set l = l.self-inside.turns - l.next
