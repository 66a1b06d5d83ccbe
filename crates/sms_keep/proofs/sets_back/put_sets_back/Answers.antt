use Rattle.std.proofs.Common.{sym, subst, arith}
use Rattle.std.proofs.lemmas.List.{length-map}
use Rattle.std.specs.Vec.Iter.{into_iter_items}
use Rattle.sms_saved.specs.Value.{view_set, view_sets}
use Rattle.sms_keep.specs.Inside.SetsBack.{IsPut}
use Rattle.sms_keep.proofs.SetsBack.{Placed, none_placed, few_placed, closed_placed, one_placed}
use Rattle.sms_keep.proofs.sets_back.put_sets_back.Goals as goal

pub loop-own-init : goal.loop-own-init
loop-own-init c =
    subst (λ xs. Placed c.args.gateway.now c.args.gateway.now (view_sets c.args.sets.items) (view_sets xs)) (sym c.into_iter-own-iterator.ensures.into_iter_gives.0)
    (none_placed c.args.gateway.now (view_sets c.args.sets.items) c.requires.none.0 c.requires.none.1 c.requires.fits)

pub put_set_back-requires-clause-fits : goal.put_set_back-requires-clause-fits
put_set_back-requires-clause-fits c =
    (subst (λ xs. Placed c.args.gateway.now c.loop-own.gateway (view_sets c.args.sets.items) (view_sets xs)) c.in-Some.ensures.steps.0 c.loop-own.invariant).fits.0

pub put_set_back-requires-clause-few : goal.put_set_back-requires-clause-few
put_set_back-requires-clause-few c =
    let many = length-map c.args.sets.items view_set in
    few_placed c.args.gateway.now c.loop-own.gateway (view_sets c.args.sets.items) (view_sets (into_iter_items c.next.new.self)) (view_set c.in-Some.own)
    (subst (λ xs. Placed c.args.gateway.now c.loop-own.gateway (view_sets c.args.sets.items) (view_sets xs)) c.in-Some.ensures.steps.0 c.loop-own.invariant)
    (omega (arith, many, c.requires.few))

pub put_set_back-requires-clause-closed : goal.put_set_back-requires-clause-closed
put_set_back-requires-clause-closed c =
    closed_placed c.args.gateway.now c.loop-own.gateway (view_sets c.args.sets.items) (view_sets (into_iter_items c.next.new.self)) (view_set c.in-Some.own)
    (subst (λ xs. Placed c.args.gateway.now c.loop-own.gateway (view_sets c.args.sets.items) (view_sets xs)) c.in-Some.ensures.steps.0 c.loop-own.invariant)
    c.requires.apart

pub loop-own-preserved : goal.loop-own-preserved
loop-own-preserved c =
    let put : IsPut c.loop-own.gateway c.put_set_back.new.gateway (view_set c.in-Some.own) = rw c.if-not-branch.false at c.in_ok-put_set_back.ensures in
    one_placed c.args.gateway.now c.loop-own.gateway c.put_set_back.new.gateway (view_sets c.args.sets.items) (view_sets (into_iter_items c.next.new.self)) (view_set c.in-Some.own)
    (subst (λ xs. Placed c.args.gateway.now c.loop-own.gateway (view_sets c.args.sets.items) (view_sets xs)) c.in-Some.ensures.steps.0 c.loop-own.invariant)
    put
