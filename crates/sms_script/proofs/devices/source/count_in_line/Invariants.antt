use Rattle.std.proofs.Common.{take}
use Rattle.sms_script.specs.Lines.{HasNoLineFeed}
use Rattle.sms_script.proofs.devices.source.count_in_line.Given as goal

abbrev pub invariant-loop-place : goal.invariant-loop-place
invariant-loop-place l = HasNoLineFeed (take l.place l.octets)
