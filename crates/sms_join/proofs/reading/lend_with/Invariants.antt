use Rattle.std.proofs.Common.{◌≡◌, take}
use Rattle.sms_join.specs.Reading.{lent}
use Rattle.sms_join.specs.Inside.Slots.{filled_with}
use Rattle.sms_join.proofs.reading.lend_with.Given as goal

abbrev pub invariant-loop-place : goal.invariant-loop-place
invariant-loop-place l = lent l.pieces.items ≡ filled_with l.units (take l.place-index l.places)
