use Rattle.std.proofs.Common.{List, length, take, ap, arith}
use Rattle.std.specs.List.{flat_map}
use Rattle.sms_saved.specs.declared.state.OpenSet.{OpenSet}
use Rattle.sms_saved.specs.declared.state.Remembered.{Remembered}
use Rattle.sms_saved.specs.Spelling.{set, remembered}
use Rattle.sms_saved.specs.Value.{StateValue, view, view_sets}
use Rattle.sms_keep.proofs.Lengths.{len_front, key_place, state_len}
use Rattle.sms_keep.proofs.places.place_of_key.Goals as goal

pub sets_len-start-requires : goal.sets_len-start-requires
sets_len-start-requires c =
    let s : StateValue = view c.args.state.now in
    let f = c.front_len.ensures.value s.taken s.next in
    let e = ap (λ (xs : List OpenSet). length (flat_map set (view_sets xs))) c.deref.ensures.value in
    omega (arith, f, e, state_len s, c.requires.few)

pub overflow_add-start : goal.overflow_add-start
overflow_add-start c =
    let s : StateValue = view c.args.state.now in
    let f = c.front_len.ensures.value s.taken s.next in
    let e = ap (λ (xs : List OpenSet). length (flat_map set (view_sets xs))) c.deref.ensures.value in
    omega (arith, f, e, state_len s, c.requires.few, c.sets_len-start.ensures)

pub keys_len-requires : goal.keys_len-requires
keys_len-requires c =
    let s : StateValue = view c.args.state.now in
    let f = c.front_len.ensures.value s.taken s.next in
    let e = ap (λ (xs : List OpenSet). length (flat_map set (view_sets xs))) c.deref.ensures.value in
    let k = ap (λ (xs : List Remembered). length (flat_map remembered (take c.args.before xs))) c.as_slice-keys.ensures.value in
    omega (arith, f, e, k, state_len s, len_front remembered s.keys c.args.before, c.requires.few, c.sets_len-start.ensures)

pub returns : goal.returns
returns c =
    let s : StateValue = view c.args.state.now in
    let f = c.front_len.ensures.value s.taken s.next in
    let e = ap (λ (xs : List OpenSet). length (flat_map set (view_sets xs))) c.deref.ensures.value in
    let k = ap (λ (xs : List Remembered). length (flat_map remembered (take c.args.before xs))) c.as_slice-keys.ensures.value in
    omega (arith, f, e, k, key_place s (take c.args.before s.keys), c.sets_len-start.ensures, c.keys_len.ensures)
