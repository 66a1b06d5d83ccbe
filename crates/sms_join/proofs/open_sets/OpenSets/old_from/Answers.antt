use Rattle.std.proofs.Common.{◌+◌, ℕ, sym, ap, ◌∙◌, subst, arith}
use Rattle.sms_join.specs.OpenSets.Told.{first_from}
use Rattle.sms_join.specs.Inside.Ages.{old_of}
use Rattle.sms_join.specs.Inside.Lines.{AreInTime}
use Rattle.sms_join.specs.Inside.Turns.{AreBefore, AreApart, arranged}
use Rattle.sms_join.proofs.Told.{arranged_climbs}
use Rattle.sms_join.proofs.OldTold.{one_old, none_old, one_young, in_time_young, found_before, found_from}
use Rattle.sms_join.proofs.open_sets.OpenSets.old_from.Goals as goal

pub returns-then-is_old : goal.returns-then-is_old
returns-then-is_old c =
    sym (c.loop-set.invariant
    ∙ one_old c.loop-set.next c.args.age (arranged c.args.self.now) c.in-Some.set (sym c.in-Some.ensures) (sym c.is_old.ensures ∙ c.if-is_old.true))

pub returns-then-self : goal.returns-then-self
returns-then-self c =
    sym (c.loop-set.invariant
    ∙ in_time_young c.self.inside.turns c.self.inside.latest c.loop-set.next c.args.age c.args.self.now c.in-Some.set
    (arranged_climbs c.args.self.now (subst AreApart c.self.view_is c.self.invariant.2.turns.apart))
    (subst (AreInTime c.self.inside.latest) c.self.view_is (c.self.invariant.3 c.if-self.true))
    (sym c.in-Some.ensures) (sym c.is_old.ensures ∙ c.if-is_old.false))

pub overflow_add-next : goal.overflow_add-next
overflow_add-next c =
    let under = found_before c.openings-openings.result c.loop-set.next c.args.self.now c.in-Some.set c.openings-openings.ensures (sym c.in-Some.ensures) in
    let turn = c.turn-next.ensures in
    omega (arith, under, turn, c.openings-openings.type_inv)

pub loop-set-smaller : goal.loop-set-smaller
loop-set-smaller c =
    let under = found_before c.self.inside.turns c.loop-set.next c.args.self.now c.in-Some.set (subst (AreBefore c.self.inside.turns) c.self.view_is c.self.invariant.2.turns.before) (sym c.in-Some.ensures) in
    let from = found_from c.loop-set.next (arranged c.args.self.now) c.in-Some.set (sym c.in-Some.ensures) in
    let turn = c.turn-next.ensures in
    omega (arith, under, from, turn)

pub loop-set-preserved : goal.loop-set-preserved
loop-set-preserved c =
    c.loop-set.invariant
    ∙ (one_young c.loop-set.next c.args.age (arranged c.args.self.now) c.in-Some.set
    (arranged_climbs c.args.self.now (subst AreApart c.self.view_is c.self.invariant.2.turns.apart))
    (sym c.in-Some.ensures) (sym c.is_old.ensures ∙ c.if-is_old.false)
    ∙ ap (λ (n : ℕ). first_from (n + 1) (old_of c.args.age (arranged c.args.self.now))) (sym c.turn-next.ensures))

pub returns : goal.returns
returns c =
    sym (c.loop-set.invariant
    ∙ none_old c.loop-set.next c.args.age (arranged c.args.self.now) (sym c.in_default.ensures))
