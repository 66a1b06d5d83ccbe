use Rattle.std.proofs.Common.{◌≡◌}
use Rattle.sms_show.proofs.headers.HeaderTextPrinted.json.Given as goal

abbrev pub invariant-loop-element : goal.invariant-loop-element
invariant-loop-element l = l.members ≡ l.fn.members
