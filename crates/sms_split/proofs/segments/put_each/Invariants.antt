use Rattle.std.proofs.Common.{map, take}
use Rattle.sms_split.specs.Lines.{WritesEach}
use Rattle.sms_split.specs.Told.{told_of}
use Rattle.sms_split.proofs.segments.put_each.Given as goal

abbrev pub invariant-loop-index : goal.invariant-loop-index
invariant-loop-index g l =
    WritesEach l.long (map (told_of l.width l.long.reference) (take l.index l.segments)) (g.W.Write.contents l.fn.output) (g.W.Write.contents l.output)
