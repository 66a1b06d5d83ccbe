use Rattle.std.proofs.Common.{◌≡◌, List, sym, ap, ◌∙◌, arith}
use Rattle.sms_join.specs.OpenSets.{SetValue}
use Rattle.sms_keep.specs.Saved.{next_opening}
use Rattle.sms_keep.proofs.Spelled.{after, after_all}
use Rattle.sms_keep.proofs.saving.next_of.Goals as goal

pub returns-clause-value : goal.returns-clause-value
returns-clause-value c =
    sym (ap (λ (ss : List SetValue). after c.loop-set.next ss) c.in-None.ensures.steps.0)
    ∙ (c.loop-set.invariant.0 ∙ after_all c.args.sets)

pub returns-clause-fits : goal.returns-clause-fits
returns-clause-fits c =
    let e : c.loop-set.next ≡ next_opening c.args.sets =
    sym (ap (λ (ss : List SetValue). after c.loop-set.next ss) c.in-None.ensures.steps.0)
    ∙ (c.loop-set.invariant.0 ∙ after_all c.args.sets) in
    omega (arith, e, c.loop-set.invariant.1)
