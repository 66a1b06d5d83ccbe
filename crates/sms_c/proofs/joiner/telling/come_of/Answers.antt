use Rattle.std.proofs.Common.{◌≡◌, ℕ, ◌+◌, ◌<◌, List, sym, subst, ◌∙◌, arith}
use Rattle.sms_join.specs.Key.{maximum_of}
use Rattle.sms_join.specs.OpenSets.{Rises}
use Rattle.sms_c.proofs.OpenOnes.{AreMarked, none_marked, one_marked_at, none_more, all_marked}
use Rattle.sms_c.proofs.joiner.telling.come_of.Goals as goal
use Rattle.sms_c.proofs.joiner.telling.come_of.Goals.{then-has, else-has}

pub loop-index-init : goal.loop-index-init
loop-index-init c = none_marked c.args.set.now.sequences (maximum_of c.args.set.now.key) c.requires.is_open.is_set.rising

pub loop-index-preserved : goal.loop-index-preserved
loop-index-preserved c =
    let few : c.loop-index.index < 255 = omega arith in
    elim c.if-has.branch [
      | then-has w ↦
          subst (λ (come : List ℕ). AreMarked c.args.set.now.sequences (c.loop-index.index + 1) come) (sym w.come-is)
          (one_marked_at c.args.set.now.sequences c.loop-index.index w.from.result c.loop-index.come w.from.ensures few (sym c.has.ensures ∙ w.if-has.true) c.loop-index.invariant)
      | else-has w ↦
          subst (λ (come : List ℕ). AreMarked c.args.set.now.sequences (c.loop-index.index + 1) come) (sym w.come-is)
          (none_more c.args.set.now.sequences c.loop-index.index c.loop-index.come (sym c.has.ensures ∙ w.if-has.false) c.loop-index.invariant)
    ]

pub returns : goal.returns
returns c =
    let ends : c.loop-index.index ≡ c.args.maximum = omega arith in
    all_marked c.args.set.now.sequences c.loop-index.index c.loop-index.come
    (subst (λ (high : ℕ). Rises 0 c.args.set.now.sequences high) (sym (ends ∙ c.requires.maximum)) c.requires.is_open.is_set.rising)
    c.loop-index.invariant
