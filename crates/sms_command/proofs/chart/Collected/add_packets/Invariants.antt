use Rattle.std.proofs.Common.{◌≡◌}
use Rattle.sms_command.proofs.chart.Collected.add_packets.Given as goal

abbrev pub invariant-loop-place : goal.invariant-loop-place
invariant-loop-place l = l.self.rows ≡ l.fn.self.rows
