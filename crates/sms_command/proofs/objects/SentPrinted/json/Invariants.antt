use Rattle.std.proofs.Common.{◌≡◌}
use Rattle.sms_command.proofs.objects.SentPrinted.json.Given as goal

abbrev pub invariant-loop-place : goal.invariant-loop-place
invariant-loop-place l = l.members ≡ l.fn.members
