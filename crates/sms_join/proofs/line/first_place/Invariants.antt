use Rattle.std.proofs.Common.{◌≡◌, drop}
use Rattle.sms_join.specs.Inside.Slots.{sets_of}
use Rattle.sms_join.specs.Inside.Lines.{walked}
use Rattle.sms_join.proofs.line.first_place.Given as goal

abbrev pub invariant-loop-at : goal.invariant-loop-at
invariant-loop-at l = walked (sets_of l.slots.entries) (drop l.fn.place l.line.items) ≡ walked (sets_of l.slots.entries) (drop l.at l.line.items)
