use Rattle.std.proofs.Common.{◌+◌, ◌-◌, length}
use Rattle.sms_join.specs.Inside.Slots.{sets_of}
use Rattle.sms_join.proofs.Seats.{Walks}
use Rattle.sms_join.proofs.dropping.drop_old.Given as goal

abbrev pub invariant-loop-place : goal.invariant-loop-place
invariant-loop-place l =
    Walks l.age l.in_time (sets_of l.fn.slots.entries) l.fn.line.items (l.fn.front + length l.fn.line.items) l.slots.entries l.line.items l.place l.first

abbrev pub decreases-loop-place : goal.decreases-loop-place
decreases-loop-place l = length l.line.items - l.place
