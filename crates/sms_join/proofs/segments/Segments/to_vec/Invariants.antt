use Rattle.std.proofs.Common.{◌≡◌, take}
use Rattle.sms_join.proofs.segments.Segments.to_vec.Given as goal

abbrev pub invariant-loop-index : goal.invariant-loop-index
invariant-loop-index l = l.segments.items ≡ take l.index l.self
