use Rattle.std.proofs.Common.{◌≡◌, ◌<◌, List, get_or, length, refl, sym, subst, arith}
use Rattle.sms_saved.specs.declared.state.OpenSet.{OpenSet}
use Rattle.sms_saved.specs.Value.{view}
use Rattle.sms_keep.specs.Inside.Restoring.{IsKeyOf}
use Rattle.sms_keep.proofs.SetsBack.{one_has, bad_set, key_none, key_some}
use Rattle.sms_keep.proofs.restoring.check_sets.Goals as goal

pub returns-then-is_none-clause-bad : goal.returns-then-is_none-clause-bad
returns-then-is_none-clause-bad c =
    bad_set (view c.args.state.now) c.args.state.now.sets.items c.loop-before.before c.place_of_set-place.result c.index-sets-before.result refl
    (subst (λ (xs : List OpenSet). c.loop-before.before < length xs) c.as_slice-sets.ensures.value c.loop-before-test.true)
    (subst (λ (xs : List OpenSet). c.index-sets-before.result ≡ get_or xs c.loop-before.before c.index-sets-before.result) c.as_slice-sets.ensures.value c.index-sets-before.is)
    c.loop-before.invariant (key_none c.index-sets-before.result.key c.in_ok-key_from.field-0 (grind arith)
    (subst (λ (x : OpenSet). IsKeyOf x.key c.in_ok-key_from.field-0) (sym c.index-sets-before.is) c.in_ok-key_from.ensures)) c.place_of_set-place.ensures

pub loop-before-preserved : goal.loop-before-preserved
loop-before-preserved c =
    one_has c.args.state.now.sets.items c.loop-before.before c.index-sets-before.result
    (subst (λ (xs : List OpenSet). c.loop-before.before < length xs) c.as_slice-sets.ensures.value c.loop-before-test.true)
    (subst (λ (xs : List OpenSet). c.index-sets-before.result ≡ get_or xs c.loop-before.before c.index-sets-before.result) c.as_slice-sets.ensures.value c.index-sets-before.is)
    c.loop-before.invariant (key_some c.index-sets-before.result.key c.in_ok-key_from.field-0 (grind arith)
    (subst (λ (x : OpenSet). IsKeyOf x.key c.in_ok-key_from.field-0) (sym c.index-sets-before.is) c.in_ok-key_from.ensures))
