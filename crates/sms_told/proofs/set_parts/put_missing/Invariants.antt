use Rattle.std.proofs.Common.{◌≡◌, ◌-◌, ◌≤◌}
use Rattle.std.specs.List.{flat_map}
use Rattle.sms_join.specs.Key.{maximum_of}
use Rattle.sms_page.specs.Page.{Puts}
use Rattle.sms_told.specs.Sets.{behind_blank, sequences_from, those_missing}
use Rattle.sms_told.proofs.set_parts.put_missing.Given as goal

abbrev pub invariant-loop-before : goal.invariant-loop-before
invariant-loop-before l =
    (l.before ≤ l.maximum) × (l.maximum ≡ maximum_of l.set.key)
    × Puts l.fn.page l.page (flat_map behind_blank (those_missing l.set.sequences (sequences_from 1 l.before)))

abbrev pub decreases-loop-before : goal.decreases-loop-before
decreases-loop-before l = l.maximum - l.before
