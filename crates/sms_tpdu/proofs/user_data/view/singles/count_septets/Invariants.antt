use Rattle.std.proofs.Common.{ℕ, ◌<◌, ◌≤◌, get_or}
use Rattle.sms_tpdu.proofs.user_data.view.singles.count_septets.Given as goal

abbrev pub invariant-loop-i : goal.invariant-loop-i
invariant-loop-i l = (l.i ≤ l.count) × ((k : ℕ) → k < l.i → get_or l.octets k 0 < 128)
