use Rattle.std.proofs.Common.{take}
use Rattle.sms_encode.specs.Inside.Pages.{PutsUnits}
use Rattle.sms_encode.proofs.lines.put_segments.Given as goal

abbrev pub invariant-loop-place : goal.invariant-loop-place
invariant-loop-place l = PutsUnits l.draft l.frame (take l.place l.segments) l.fn.page l.page
