use Rattle.std.proofs.Common.{◌≡◌}
use Rattle.sms_answer.proofs.lines.close_layers.Given as goal

abbrev pub invariant-loop : goal.invariant-loop
invariant-loop l = l.members ≡ l.fn.members
