use Rattle.sms_join.proofs.SeatsTaken.{Seating}
use Rattle.sms_join.proofs.line.take_seats.Given as goal

abbrev pub invariant-loop-seat : goal.invariant-loop-seat
invariant-loop-seat l = Seating l.seat l.line.items l.fn.slots.entries l.slots.entries
