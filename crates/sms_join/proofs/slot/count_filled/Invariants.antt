use Rattle.std.proofs.Common.{◌≡◌, length, take}
use Rattle.sms_join.specs.OpenSets.Places.{filled}
use Rattle.sms_join.proofs.slot.count_filled.Given as goal

abbrev pub invariant-loop-place : goal.invariant-loop-place
invariant-loop-place l = l.count ≡ length (filled (take l.place-index l.places))
