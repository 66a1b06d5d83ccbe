-- Along the line, old sets go.
use Rattle.std.proofs.Common.{◌≡◌, ℕ, suc, ◌+◌, ◌<◌, ◌≤◌, Bool, true, false, leb, List, drop, length, slice_get, Some, sym, ap, ◌∙◌, subst, arith}
use Rattle.std.proofs.lemmas.Bool.{leb-true}
use Rattle.std.proofs.lemmas.Option.{slice_get_read}
use Rattle.std.specs.Map.{values_of}
use Rattle.sms_join.specs.declared.age.Age.{Age}
use Rattle.sms_join.specs.declared.key.Key.{Key}
use Rattle.sms_join.specs.Inside.Slots.{SlotValue, At, AreSlots, sets_of}
use Rattle.sms_join.proofs.InLine.{got_within, got_there}
use Rattle.sms_join.proofs.Passing.{ages_first, ages_next, ages_front, ages_drop, ages_end, ages_stop, none_lies, one_lies, young_lies, none_of_it, noted_length, drop_one}
use Rattle.sms_join.proofs.Slots.{sets_length, at_slot}
use Rattle.sms_join.proofs.Seats.{Walks, seats_front}
use Rattle.sms_join.proofs.dropping.drop_old.Goals.{then-lies+then-is_old, then-lies+else-is_old+else-in_time, else-lies}
use Rattle.sms_join.proofs.dropping.drop_old.Goals as goal

wrong : (b : Bool) → b ≡ false → b ≡ true → ⊥
wrong true e f = absurd cc
wrong false e f = absurd cc

-- a slot that is young, as a set
young_at : (age : Age) (es : List (Key × SlotValue)) (i : ℕ) (v : SlotValue) (b : Bool) → AreSlots es → slice_get (values_of es) i ≡ Some v → b ≡ leb (v.opened + age.longest) age.now → b ≡ false
    → At (sets_of es) i (λ s. leb (s.opened + age.longest) age.now ≡ false)
young_at age es i v b h is e f = at_slot es i v (λ s. leb (s.opened + age.longest) age.now ≡ false) h is (λ k l. sym e ∙ f)

old_at : (age : Age) (es : List (Key × SlotValue)) (i : ℕ) (v : SlotValue) (b : Bool) → AreSlots es → slice_get (values_of es) i ≡ Some v → b ≡ leb (v.opened + age.longest) age.now → b ≡ true
    → At (sets_of es) i (λ s. s.opened + age.longest ≤ age.now)
old_at age es i v b h is e f = at_slot es i v (λ s. s.opened + age.longest ≤ age.now) h is (λ k l. leb-true (v.opened + age.longest) age.now (sym e ∙ f))

pub loop-place-init : goal.loop-place-init
loop-place-init c = (
  c.requires.slots,
  ages_first c.args.age c.requires.line.0 (sets_of c.args.slots.now.entries) c.args.line.now.items c.args.in_time c.requires.line.1,
  c.requires.seats,
  omega arith,
)

pub index-requires : goal.index-requires
index-requires c =
    let l = one_lies (sets_of c.loop-place.slots.entries) c.index-opening.result.now (sym c.lies.ensures ∙ c.if-lies.true) in
    subst (λ (n : ℕ). c.index-opening.result.now.index < n) (sets_length c.loop-place.slots.entries) (got_within (sets_of c.loop-place.slots.entries) c.index-opening.result.now.index l.own l.there)

pub drop_at-requires-clause-there : goal.drop_at-requires-clause-there
drop_at-requires-clause-there c =
    let l = one_lies (sets_of c.loop-place.slots.entries) c.index-opening.result.now (sym c.lies.ensures ∙ c.if-lies.true) in
    got_within (sets_of c.loop-place.slots.entries) c.index-opening.result.now.index l.own l.there

pub drop_at-requires-clause-line : goal.drop_at-requires-clause-line
drop_at-requires-clause-line c = (c.requires.line.0, c.loop-place.invariant.1.line c.requires.line.0 c.requires.line.1)

pub returns-then-in_time-clause-sets : goal.returns-then-in_time-clause-sets
returns-then-in_time-clause-sets c =
    let time = c.requires.time c.if-in_time.true in
    ages_stop c.args.age c.requires.line.0 time.0 (sets_of c.args.slots.now.entries) c.args.line.now.items (sets_of c.loop-place.slots.entries) c.loop-place.line.items c.loop-place.place c.args.in_time
    c.index-opening.result.now
    (slice_get_read c.loop-place.line.items c.len.result c.loop-place.place c.index-opening.result.now (c.len.ensures ∙ c.loop-place.line.ok.0) c.loop-place-test.true c.index-opening.ensures)
    (one_lies (sets_of c.loop-place.slots.entries) c.index-opening.result.now (sym c.lies.ensures ∙ c.if-lies.true))
    (young_at c.args.age c.loop-place.slots.entries c.index-opening.result.now.index c.index.result.now c.is_old.result c.loop-place.invariant.0 c.index.ensures c.is_old.ensures c.if-is_old.false)
    c.if-in_time.true time.1 c.requires.line.1 c.loop-place.invariant.1

pub loop-place-preserved : goal.loop-place-preserved
loop-place-preserved c = elim c.if-lies.branch [
  | then-lies+then-is_old w ↦
      let l = one_lies (sets_of c.loop-place.slots.entries) c.index-opening.result.now (sym c.lies.ensures ∙ w.if-lies.true) in
      let len = noted_length (slice_get (sets_of w.drop_at.new.slots.entries) c.index-opening.result.now.index) c.index-opening.result.now.index c.loop-place.line.items w.drop_at.new.line.items w.drop_at.ensures.line in
      let q = got_there w.drop_at.new.line.items c.loop-place.place (omega (arith, len, c.len.ensures, c.loop-place.line.ok.0, c.loop-place-test.true)) in
      let inv = c.loop-place.invariant.1 in
      let dropped = ages_drop c.args.age c.requires.line.0 (sets_of c.args.slots.now.entries) c.args.line.now.items (sets_of c.loop-place.slots.entries) (sets_of w.drop_at.new.slots.entries) c.loop-place.line.items
      w.drop_at.new.line.items c.loop-place.place c.args.in_time c.index-opening.result.now l w.drop_at.ensures.sets w.drop_at.ensures.line c.requires.line.1 inv
      (old_at c.args.age c.loop-place.slots.entries c.index-opening.result.now.index w.index.result.now w.is_old.result c.loop-place.invariant.0 w.index.ensures w.is_old.ensures w.if-is_old.true l.own l.there) in
      let next = ages_next c.args.age (sets_of c.args.slots.now.entries) c.args.line.now.items (sets_of w.drop_at.new.slots.entries) w.drop_at.new.line.items c.loop-place.place c.args.in_time q.0 q.1
      (λ i s at old. none_of_it c.args.age c.requires.line.0 (sets_of c.args.slots.now.entries) c.args.line.now.items (sets_of c.loop-place.slots.entries) (sets_of w.drop_at.new.slots.entries) c.loop-place.line.items
      w.drop_at.new.line.items c.loop-place.place c.args.in_time c.index-opening.result.now l w.drop_at.ensures.sets w.drop_at.ensures.line c.requires.line.1 inv q.0
      (slice_get_read c.loop-place.line.items c.len.result c.loop-place.place c.index-opening.result.now (c.len.ensures ∙ c.loop-place.line.ok.0) c.loop-place-test.true c.index-opening.ensures) q.1 i s at)
      (wrong c.args.in_time c.if-in_time-2.false) dropped in
      subst (λ m. Walks c.args.age c.args.in_time (sets_of c.args.slots.now.entries) c.args.line.now.items (c.args.front + length c.args.line.now.items) m.entries c.if-lies.line.items (c.loop-place.place + 1) c.loop-place.first) (sym w.slots-is)
      (subst (λ v. Walks c.args.age c.args.in_time (sets_of c.args.slots.now.entries) c.args.line.now.items (c.args.front + length c.args.line.now.items) w.drop_at.new.slots.entries v.items (c.loop-place.place + 1) c.loop-place.first)
      (sym w.line-is) (w.drop_at.ensures.slots, next, w.drop_at.ensures.seats, (let n = c.loop-place.invariant.3 in omega (arith, n, len))))
  | then-lies+else-is_old+else-in_time w ↦
      let next = ages_next c.args.age (sets_of c.args.slots.now.entries) c.args.line.now.items (sets_of c.loop-place.slots.entries) c.loop-place.line.items c.loop-place.place c.args.in_time c.index-opening.result.now
      (slice_get_read c.loop-place.line.items c.len.result c.loop-place.place c.index-opening.result.now (c.len.ensures ∙ c.loop-place.line.ok.0) c.loop-place-test.true c.index-opening.ensures)
      (young_lies c.args.age (sets_of c.loop-place.slots.entries) c.index-opening.result.now
      (young_at c.args.age c.loop-place.slots.entries c.index-opening.result.now.index w.index.result.now w.is_old.result c.loop-place.invariant.0 w.index.ensures w.is_old.ensures w.if-is_old.false))
      (wrong c.args.in_time c.if-in_time-2.false) c.loop-place.invariant.1 in
      subst (λ m. Walks c.args.age c.args.in_time (sets_of c.args.slots.now.entries) c.args.line.now.items (c.args.front + length c.args.line.now.items) m.entries c.if-lies.line.items (c.loop-place.place + 1) c.loop-place.first) (sym w.slots-is)
      (subst (λ v. Walks c.args.age c.args.in_time (sets_of c.args.slots.now.entries) c.args.line.now.items (c.args.front + length c.args.line.now.items) c.loop-place.slots.entries v.items (c.loop-place.place + 1) c.loop-place.first)
      (sym w.line-is) (c.loop-place.invariant.0, next, c.loop-place.invariant.2, c.loop-place.invariant.3))
  | else-lies w ↦
      let next = ages_next c.args.age (sets_of c.args.slots.now.entries) c.args.line.now.items (sets_of c.loop-place.slots.entries) c.loop-place.line.items c.loop-place.place c.args.in_time c.index-opening.result.now
      (slice_get_read c.loop-place.line.items c.len.result c.loop-place.place c.index-opening.result.now (c.len.ensures ∙ c.loop-place.line.ok.0) c.loop-place-test.true c.index-opening.ensures)
      (λ i s at old. none_lies (sets_of c.loop-place.slots.entries) c.index-opening.result.now (sym c.lies.ensures ∙ w.if-lies.false) i s at)
      (wrong c.args.in_time c.if-in_time-2.false) c.loop-place.invariant.1 in
      subst (λ m. Walks c.args.age c.args.in_time (sets_of c.args.slots.now.entries) c.args.line.now.items (c.args.front + length c.args.line.now.items) m.entries c.if-lies.line.items (c.loop-place.place + 1) c.loop-place.first) (sym w.slots-is)
      (subst (λ v. Walks c.args.age c.args.in_time (sets_of c.args.slots.now.entries) c.args.line.now.items (c.args.front + length c.args.line.now.items) c.loop-place.slots.entries v.items (c.loop-place.place + 1) c.loop-place.first)
      (sym w.line-is) (c.loop-place.invariant.0, next, c.loop-place.invariant.2, c.loop-place.invariant.3))
]

pub loop-place-smaller : goal.loop-place-smaller
loop-place-smaller c =
    let same : length c.if-lies.line.items ≡ length c.loop-place.line.items = elim c.if-lies.branch [
      | then-lies+then-is_old w ↦ ap (λ v. length v.items) w.line-is
          ∙ noted_length (slice_get (sets_of w.drop_at.new.slots.entries) c.index-opening.result.now.index) c.index-opening.result.now.index c.loop-place.line.items w.drop_at.new.line.items w.drop_at.ensures.line
      | then-lies+else-is_old+else-in_time w ↦ ap (λ v. length v.items) w.line-is
      | else-lies w ↦ ap (λ v. length v.items) w.line-is
    ] in
    omega (arith, same, c.len.ensures, c.loop-place.line.ok.0, c.loop-place-test.true)

pub loop-place-preserved-then-in_time-2 : goal.loop-place-preserved-then-in_time-2
loop-place-preserved-then-in_time-2 c = elim c.if-lies.branch [
  | then-lies+then-is_old w ↦
      let l = one_lies (sets_of c.loop-place.slots.entries) c.index-opening.result.now (sym c.lies.ensures ∙ w.if-lies.true) in
      let len = noted_length (slice_get (sets_of w.drop_at.new.slots.entries) c.index-opening.result.now.index) c.index-opening.result.now.index c.loop-place.line.items w.drop_at.new.line.items w.drop_at.ensures.line in
      let q = got_there w.drop_at.new.line.items c.loop-place.place (omega (arith, len, c.len.ensures, c.loop-place.line.ok.0, c.loop-place-test.true)) in
      let inv = c.loop-place.invariant.1 in
      let dropped = ages_drop c.args.age c.requires.line.0 (sets_of c.args.slots.now.entries) c.args.line.now.items (sets_of c.loop-place.slots.entries) (sets_of w.drop_at.new.slots.entries) c.loop-place.line.items
      w.drop_at.new.line.items c.loop-place.place c.args.in_time c.index-opening.result.now l w.drop_at.ensures.sets w.drop_at.ensures.line c.requires.line.1 inv
      (old_at c.args.age c.loop-place.slots.entries c.index-opening.result.now.index w.index.result.now w.is_old.result c.loop-place.invariant.0 w.index.ensures w.is_old.ensures w.if-is_old.true l.own l.there) in
      let popped : c.pop_front.new.self.items ≡ drop 1 w.drop_at.new.line.items = c.pop_front.ensures.rest ∙ ap (λ v. drop 1 v.items) w.line-is in
      let left =
      none_of_it c.args.age c.requires.line.0 (sets_of c.args.slots.now.entries) c.args.line.now.items (sets_of c.loop-place.slots.entries) (sets_of w.drop_at.new.slots.entries) c.loop-place.line.items
      w.drop_at.new.line.items c.loop-place.place c.args.in_time c.index-opening.result.now l w.drop_at.ensures.sets w.drop_at.ensures.line c.requires.line.1 inv q.0
      (slice_get_read c.loop-place.line.items c.len.result c.loop-place.place c.index-opening.result.now (c.len.ensures ∙ c.loop-place.line.ok.0) c.loop-place-test.true c.index-opening.ensures) q.1 in
      let next = ages_front c.args.age c.requires.line.0 (sets_of c.args.slots.now.entries) c.args.line.now.items (sets_of w.drop_at.new.slots.entries) w.drop_at.new.line.items c.loop-place.place c.args.in_time q.0
      c.pop_front.new.self.items q.1 popped left
      c.if-in_time-2.true dropped in
      subst (λ m. Walks c.args.age c.args.in_time (sets_of c.args.slots.now.entries) c.args.line.now.items (c.args.front + length c.args.line.now.items) m.entries c.pop_front.new.self.items c.loop-place.place (c.loop-place.first + 1)) (sym w.slots-is) (
        w.drop_at.ensures.slots,
        next,
        seats_front c.loop-place.first w.drop_at.new.line.items c.pop_front.new.self.items q.0 w.drop_at.new.slots.entries
            (ap (slice_get w.drop_at.new.line.items) (sym (dropped.front c.if-in_time-2.true)) ∙ q.1) popped left w.drop_at.ensures.seats,
        (let n = c.loop-place.invariant.3 in let d = drop_one w.drop_at.new.line.items (omega (arith, len, c.len.ensures, c.loop-place.line.ok.0, c.loop-place-test.true)) in
            let e = ap (λ l. length l) popped in omega (arith, n, len, d, e)),
      )
  | then-lies+else-is_old+else-in_time w ↦ absurd (wrong c.args.in_time w.if-in_time.false c.if-in_time-2.true)
  | else-lies w ↦
      let at = slice_get_read c.loop-place.line.items c.len.result c.loop-place.place c.index-opening.result.now (c.len.ensures ∙ c.loop-place.line.ok.0) c.loop-place-test.true c.index-opening.ensures in
      let popped : c.pop_front.new.self.items ≡ drop 1 c.loop-place.line.items = c.pop_front.ensures.rest ∙ ap (λ v. drop 1 v.items) w.line-is in
      let left = none_lies (sets_of c.loop-place.slots.entries) c.index-opening.result.now (sym c.lies.ensures ∙ w.if-lies.false) in
      let next = ages_front c.args.age c.requires.line.0 (sets_of c.args.slots.now.entries) c.args.line.now.items (sets_of c.loop-place.slots.entries) c.loop-place.line.items c.loop-place.place c.args.in_time c.index-opening.result.now
      c.pop_front.new.self.items at popped left
      c.if-in_time-2.true c.loop-place.invariant.1 in
      subst (λ m. Walks c.args.age c.args.in_time (sets_of c.args.slots.now.entries) c.args.line.now.items (c.args.front + length c.args.line.now.items) m.entries c.pop_front.new.self.items c.loop-place.place (c.loop-place.first + 1)) (sym w.slots-is) (
        c.loop-place.invariant.0,
        next,
        seats_front c.loop-place.first c.loop-place.line.items c.pop_front.new.self.items c.index-opening.result.now c.loop-place.slots.entries
            (ap (slice_get c.loop-place.line.items) (sym (c.loop-place.invariant.1.front c.if-in_time-2.true)) ∙ at) popped left c.loop-place.invariant.2,
        (let n = c.loop-place.invariant.3 in let d = drop_one c.loop-place.line.items (omega (arith, c.len.ensures, c.loop-place.line.ok.0, c.loop-place-test.true)) in
            let e = ap (λ l. length l) popped in omega (arith, n, d, e)),
      )
]

pub loop-place-smaller-then-in_time-2 : goal.loop-place-smaller-then-in_time-2
loop-place-smaller-then-in_time-2 c =
    let same : length c.if-lies.line.items ≡ length c.loop-place.line.items = elim c.if-lies.branch [
      | then-lies+then-is_old w ↦ ap (λ v. length v.items) w.line-is
          ∙ noted_length (slice_get (sets_of w.drop_at.new.slots.entries) c.index-opening.result.now.index) c.index-opening.result.now.index c.loop-place.line.items w.drop_at.new.line.items w.drop_at.ensures.line
      | then-lies+else-is_old+else-in_time w ↦ ap (λ v. length v.items) w.line-is
      | else-lies w ↦ ap (λ v. length v.items) w.line-is
    ] in
    let some : 0 < length c.if-lies.line.items = omega (arith, same, c.len.ensures, c.loop-place.line.ok.0, c.loop-place-test.true) in
    let fewer : suc (length c.pop_front.new.self.items) ≡ length c.if-lies.line.items = ap (λ l. suc (length l)) c.pop_front.ensures.rest ∙ drop_one c.if-lies.line.items some in
    omega (arith, fewer, same, c.len.ensures, c.loop-place.line.ok.0, c.loop-place-test.true)

pub returns-clause-sets : goal.returns-clause-sets
returns-clause-sets c =
    ages_end c.args.age (sets_of c.args.slots.now.entries) c.args.line.now.items (sets_of c.loop-place.slots.entries) c.loop-place.line.items c.loop-place.place c.args.in_time
    (omega (arith, c.len.ensures, c.loop-place.line.ok.0, c.loop-place-test.false)) c.loop-place.invariant.1
