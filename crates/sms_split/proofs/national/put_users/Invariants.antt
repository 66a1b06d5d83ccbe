use Rattle.std.proofs.Common.{take}
use Rattle.sms_split.specs.Lines.{WritesEach}
use Rattle.sms_split.specs.Told.{national_tolds}
use Rattle.sms_split.proofs.national.put_users.Given as goal

abbrev pub invariant-loop-index : goal.invariant-loop-index
invariant-loop-index g l =
    WritesEach l.long (national_tolds l.segments l.long.reference 1 (take l.index l.segments.pieces)) (g.W.Write.contents l.fn.output) (g.W.Write.contents l.output)
