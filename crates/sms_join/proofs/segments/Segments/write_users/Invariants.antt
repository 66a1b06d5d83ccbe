use Rattle.std.proofs.Common.{take}
use Rattle.sms_join.proofs.WrittenParts.{WrittenUpTo}
use Rattle.sms_join.proofs.segments.Segments.write_users.Given as goal

abbrev pub invariant-loop-index : goal.invariant-loop-index
invariant-loop-index l = WrittenUpTo l.width l.reference (take l.index l.self) l.octets.items l.ends.items
