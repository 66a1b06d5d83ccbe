use Rattle.std.proofs.Common.{◌≡◌, ◌+◌, ℕ, Bool, length, take, sym, ap, ◌∙◌, arith, cond, is_some}
use Rattle.sms_join.specs.OpenSets.Places.{filled}
use Rattle.sms_join.proofs.Placed.{counted_one, few_counted, all_counted}
use Rattle.sms_join.proofs.slot.count_filled.Goals.{then-is_some, else-is_some}
use Rattle.sms_join.proofs.slot.count_filled.Goals as goal

pub overflow_add-count : goal.overflow_add-count
overflow_add-count c =
    let few = few_counted c.args.places.now c.loop-place.place-index in
    omega (arith, few, c.loop-place.invariant, c.loop-place-test.true, c.loop-place.auto.place-index-end)

pub loop-place-preserved : goal.loop-place-preserved
loop-place-preserved c = (sum ∙ ap (λ (n : ℕ). n + cond {A = ℕ} (is_some c.place-item.result) 1 0) c.loop-place.invariant) ∙ sym one
  where
    one : length (filled (take (c.loop-place.place-index + 1) c.args.places.now)) ≡ length (filled (take c.loop-place.place-index c.args.places.now)) + cond {A = ℕ} (is_some c.place-item.result) 1 0
    one = counted_one c.args.places.now c.loop-place.place-index c.place-item.result (omega (arith, c.loop-place-test.true)) c.place-item.is

    sum : c.if-is_some.count ≡ c.loop-place.count + cond {A = ℕ} (is_some c.place-item.result) 1 0
    sum = elim c.if-is_some.branch [
      | then-is_some w ↦ w.count-is ∙ ap (λ (b : Bool). c.loop-place.count + cond {A = ℕ} b 1 0) (sym w.if-is_some.true ∙ c.is_some.ensures)
      | else-is_some w ↦ (let none : cond {A = ℕ} (is_some c.place-item.result) 1 0 ≡ 0 = ap (λ (b : Bool). cond {A = ℕ} b 1 0) (sym c.is_some.ensures ∙ w.if-is_some.false) in omega (arith, w.count-is, none))
    ]

pub returns : goal.returns
returns c = c.loop-place.invariant ∙ all_counted c.args.places.now c.loop-place.place-index (omega (arith, c.loop-place-test.false))
