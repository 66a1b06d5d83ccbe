use Rattle.std.proofs.Common.{◌≡◌, true, take}
use Rattle.sms_script.specs.Transcript.Escapes.{escaped}
use Rattle.sms_script.proofs.transcript.escapes.are_plain.Given as goal

abbrev pub invariant-loop-octet : goal.invariant-loop-octet
invariant-loop-octet l = l.all ≡ true → escaped (take l.octet-index l.octets) ≡ take l.octet-index l.octets
