use Rattle.std.proofs.Common.{◌≡◌, take}
use Rattle.sms_script.specs.Transcript.Escapes.{escaped}
use Rattle.sms_script.proofs.transcript.escapes.plain_front.Given as goal

abbrev pub invariant-loop-place : goal.invariant-loop-place
invariant-loop-place l = escaped (take l.place l.text) ≡ take l.place l.text
