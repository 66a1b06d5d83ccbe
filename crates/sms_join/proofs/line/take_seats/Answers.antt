use Rattle.std.proofs.Common.{◌≡◌, ℕ, ◌+◌, ◌<◌, slice_get, Some, sym, ◌∙◌, subst, arith}
use Rattle.std.proofs.lemmas.Option.{slice_get_read}
use Rattle.sms_join.specs.Inside.Lines.{InLine}
use Rattle.sms_join.specs.Inside.Slots.{sets_of}
use Rattle.sms_join.proofs.InLine.{got_within}
use Rattle.sms_join.proofs.Passing.{one_lies}
use Rattle.sms_join.proofs.SeatsTaken.{Seating, seating_passed, seating_taken, seats_taken}
use Rattle.sms_join.proofs.Slots.{sets_length}
use Rattle.sms_join.proofs.line.take_seats.Goals.{then-lies, else-lies}
use Rattle.sms_join.proofs.line.take_seats.Goals as goal

pub index_mut-requires : goal.index_mut-requires
index_mut-requires c =
    let l = one_lies (sets_of c.loop-seat.slots.entries) c.index-opening.result.now (sym c.lies.ensures ∙ c.if-lies.true) in
    subst (λ (n : ℕ). c.index-opening.result.now.index < n) (sets_length c.loop-seat.slots.entries) (got_within (sets_of c.loop-seat.slots.entries) c.index-opening.result.now.index l.own l.there)

pub loop-seat-preserved : goal.loop-seat-preserved
loop-seat-preserved c =
    let at : slice_get c.args.line.now.items c.loop-seat.seat ≡ Some c.index-opening.result.now =
    slice_get_read c.args.line.now.items c.len-seat-end.result c.loop-seat.seat c.index-opening.result.now (c.len-seat-end.ensures ∙ c.args.line.now.ok.0) c.loop-seat-test.true c.index-opening.ensures in
    elim c.if-lies.branch [
      | then-lies w ↦
          subst (λ m. Seating (c.loop-seat.seat + 1) c.args.line.now.items c.args.slots.now.entries m.entries) (sym w.slots-is)
          (seating_taken c.loop-seat.seat c.args.line.now.items c.args.slots.now.entries c.loop-seat.slots.entries c.index-opening.result.now w.index_mut.result.now w.take_seat.new.self at w.index_mut.ensures.value
          (sym c.lies.ensures ∙ w.if-lies.true) w.take_seat.ensures c.loop-seat.invariant)
      | else-lies w ↦
          subst (λ m. Seating (c.loop-seat.seat + 1) c.args.line.now.items c.args.slots.now.entries m.entries) (sym w.slots-is)
          (seating_passed c.loop-seat.seat c.args.line.now.items c.args.slots.now.entries c.loop-seat.slots.entries c.index-opening.result.now at (sym c.lies.ensures ∙ w.if-lies.false) c.loop-seat.invariant)
    ]

pub returns-clause-seats : goal.returns-clause-seats
returns-clause-seats c = λ t h.
    seats_taken t c.loop-seat.seat c.args.line.now.items c.loop-seat.slots.entries (omega (arith, c.loop-seat-test.false, c.len-seat-end.ensures, c.args.line.now.ok.0))
    (subst (InLine t c.args.line.now.items) (sym c.loop-seat.invariant.0) h) (c.loop-seat.invariant.2 h.climbs)
