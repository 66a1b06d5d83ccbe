use Rattle.std.proofs.Common.{◌≡◌, ◌+◌, ◌-◌, ◌≤◌, length, drop}
use Rattle.std.specs.List.{prefix_len}
use Rattle.sms_page.specs.Plain.{is_plain}
use Rattle.sms_page.proofs.plain.few_end.Given as goal

abbrev pub invariant-loop-at : goal.invariant-loop-at
invariant-loop-at g l =
    (l.at ≤ length l.octets)
    × (l.from + prefix_len (is_plain g.row.OTHER) (drop l.from l.octets) ≡ l.at + prefix_len (is_plain g.row.OTHER) (drop l.at l.octets))

abbrev pub decreases-loop-at : goal.decreases-loop-at
decreases-loop-at g l = length l.octets - l.at
