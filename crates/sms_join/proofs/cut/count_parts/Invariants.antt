use Rattle.std.proofs.Common.{◌-◌, length}
use Rattle.sms_join.specs.UnitsOfText.{numbers}
use Rattle.sms_join.proofs.CutPlaces.{CountedUpTo}
use Rattle.sms_join.proofs.cut.count_parts.Given as goal

abbrev pub invariant-loop-start : goal.invariant-loop-start
invariant-loop-start l = CountedUpTo l.units l.room l.start l.parts

abbrev pub decreases-loop-start : goal.decreases-loop-start
decreases-loop-start l = length (numbers l.units) - l.start
