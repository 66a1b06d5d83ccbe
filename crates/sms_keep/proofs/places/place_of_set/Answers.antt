use Rattle.std.proofs.Common.{List, length, take, ap, arith}
use Rattle.std.proofs.lemmas.List.{take-map}
use Rattle.std.specs.List.{flat_map}
use Rattle.sms_saved.specs.declared.state.OpenSet.{OpenSet}
use Rattle.sms_saved.specs.Spelling.{set}
use Rattle.sms_saved.specs.Value.{SetValue, StateValue, view, view_set, view_sets}
use Rattle.sms_keep.proofs.Lengths.{len_front, set_place, state_len}
use Rattle.sms_keep.proofs.places.place_of_set.Goals as goal

pub sets_len-requires : goal.sets_len-requires
sets_len-requires c =
    let s : StateValue = view c.args.state.now in
    let f = c.front_len.ensures.value s.taken s.next in
    let e = ap (λ (xs : List OpenSet). length (flat_map set (view_sets (take c.args.before xs)))) c.as_slice-sets.ensures.value in
    let m = ap (λ (ss : List SetValue). length (flat_map set ss)) (take-map view_set c.args.before c.args.state.now.sets.items) in
    omega (arith, f, e, m, state_len s, len_front set s.sets c.args.before, c.requires.few)

pub returns : goal.returns
returns c =
    let s : StateValue = view c.args.state.now in
    let f = c.front_len.ensures.value s.taken s.next in
    let e = ap (λ (xs : List OpenSet). length (flat_map set (view_sets (take c.args.before xs)))) c.as_slice-sets.ensures.value in
    let m = ap (λ (ss : List SetValue). length (flat_map set ss)) (take-map view_set c.args.before c.args.state.now.sets.items) in
    omega (arith, f, e, m, set_place s (take c.args.before s.sets), c.sets_len.ensures)
