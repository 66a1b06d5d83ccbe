use Rattle.std.proofs.Common.{◌-◌, ◌≤◌, length, take}
use Rattle.sms_page.specs.Page.{Puts}
use Rattle.sms_page.specs.Escapes.{escaped}
use Rattle.sms_page.proofs.escape.put_parts.Given as goal

abbrev pub invariant-loop-at : goal.invariant-loop-at
invariant-loop-at g l = (l.at ≤ length l.text) × Puts l.fn.page l.page (escaped g.E.Escaping.rule (take l.at l.text))

abbrev pub decreases-loop-at : goal.decreases-loop-at
decreases-loop-at g l = length l.text - l.at
