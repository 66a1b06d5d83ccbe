use Rattle.std.proofs.Common.{◌≡◌, ◌-◌, ◌≤◌}
use Rattle.std.specs.List.{flat_map}
use Rattle.sms_join.specs.Key.{maximum_of}
use Rattle.sms_page.specs.Object.{Writes}
use Rattle.sms_told.specs.Sets.{number_value, sequences_from, those_missing}
use Rattle.sms_told.proofs.set_parts.put_missing_values.Given as goal

abbrev pub invariant-loop-before : goal.invariant-loop-before
invariant-loop-before l =
    (l.before ≤ l.maximum) × (l.maximum ≡ maximum_of l.set.key)
    × Writes l.fn.object l.object (flat_map number_value (those_missing l.set.sequences (sequences_from 1 l.before)))

abbrev pub decreases-loop-before : goal.decreases-loop-before
decreases-loop-before l = l.maximum - l.before
