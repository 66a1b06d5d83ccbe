use Rattle.std.proofs.Common.{take}
use Rattle.sms_c.specs.DataSplitting.{AreApart}
use Rattle.sms_c.proofs.data_splitting.apart_of.Given as goal

abbrev pub invariant-loop-index : goal.invariant-loop-index
invariant-loop-index l = AreApart l.single l.width l.reference (take l.index l.segments) l.octets.items l.parts.items
