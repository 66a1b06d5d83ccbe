use Rattle.std.proofs.Common.{◌≡◌, ◌++◌, length}
use Rattle.sms_text.specs.Utf16.{units_high_first}
use Rattle.sms_text.proofs.ucs2.push_pairs.Given as goal

abbrev pub invariant-loop-rest : goal.invariant-loop-rest
invariant-loop-rest l = l.units.items ++ units_high_first l.rest ≡ l.fn.units.items ++ units_high_first l.octets

abbrev pub decreases-loop-rest : goal.decreases-loop-rest
decreases-loop-rest l = length l.rest
