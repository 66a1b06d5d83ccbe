use Rattle.std.proofs.Common.{◌≡◌, ◌++◌, drop}
use Rattle.sms_script.specs.Transcript.Escapes.{escaped}
use Rattle.sms_script.proofs.transcript.escapes.push_each.Given as goal

abbrev pub invariant-loop-octet : goal.invariant-loop-octet
invariant-loop-octet l = l.out.items ++ escaped (drop l.octet-index l.text) ≡ l.fn.out.items ++ escaped l.text
