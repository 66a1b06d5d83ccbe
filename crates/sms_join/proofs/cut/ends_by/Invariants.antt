use Rattle.std.proofs.Common.{◌-◌, length}
use Rattle.sms_join.specs.UnitsOfText.{numbers}
use Rattle.sms_join.proofs.Ends.{EndsUpTo}
use Rattle.sms_join.proofs.cut.ends_by.Given as goal

abbrev pub invariant-loop-start : goal.invariant-loop-start
invariant-loop-start l = EndsUpTo l.units l.room l.start l.ends.items

abbrev pub decreases-loop-start : goal.decreases-loop-start
decreases-loop-start l = length (numbers l.units) - l.start
