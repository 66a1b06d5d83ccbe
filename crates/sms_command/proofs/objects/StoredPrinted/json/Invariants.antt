use Rattle.std.proofs.Common.{◌≡◌}
use Rattle.sms_command.proofs.objects.StoredPrinted.json.Given as goal

abbrev pub invariant-loop-entry : goal.invariant-loop-entry
invariant-loop-entry l = l.members ≡ l.fn.members
