use Rattle.std.proofs.Common.{◌≡◌, None, ap, ◌∙◌, subst}
use Rattle.sms_join.specs.declared.age.Age.{Age}
use Rattle.sms_join.specs.Joiner.{Joiner}
use Rattle.sms_join.specs.Joiner.Aging.{aged, aged_after}
use Rattle.sms_join.specs.Joiner.Value.{JoinerValue}
use Rattle.sms_join.specs.Joiner.Same.{IsSame}
use Rattle.sms_join.specs.Inside.Ages.{young_of}
use Rattle.sms_join.specs.Inside.Keeping.{in_order}
use Rattle.sms_join.specs.Inside.Turns.{arranged}
use Rattle.sms_join.specs.OpenSets.Told.{young_sets}
use Rattle.sms_join.proofs.KeptAged.{kept_aged, week_aged}
use Rattle.sms_join.proofs.Same.{same_refl}
use Rattle.sms_join.proofs.ForRecipients.{age_for}
use Rattle.sms_join.proofs.joiner.Joiner.age.Goals as goal

pub returns-clause-holds : goal.returns-clause-holds
returns-clause-holds c =
    let is : (in_order c.age.new.self).holds ≡ aged c.args.now (in_order c.self.inside.keeper).holds =
    kept_aged c.week.result c.self.inside.keeper c.age.new.self c.have_kept.ensures.are_open c.age.ensures.told c.age.ensures.finished
    ∙ (ap (λ (a : Age). aged_after a.longest a.now (in_order c.self.inside.keeper).holds) c.week.ensures
    ∙ week_aged c.args.now (in_order c.self.inside.keeper).holds) in
    subst (λ (v : JoinerValue). IsSame (in_order c.age.new.self).holds (aged c.args.now v.holds)) c.self.view_is
    (subst (λ (j : Joiner). IsSame (in_order c.age.new.self).holds j) is (same_refl (in_order c.age.new.self).holds))

pub returns-clause-order : goal.returns-clause-order
returns-clause-order c =
    let is : (in_order c.age.new.self).holds ≡ aged c.args.now (in_order c.self.inside.keeper).holds =
    kept_aged c.week.result c.self.inside.keeper c.age.new.self c.have_kept.ensures.are_open c.age.ensures.told c.age.ensures.finished
    ∙ (ap (λ (a : Age). aged_after a.longest a.now (in_order c.self.inside.keeper).holds) c.week.ensures
    ∙ week_aged c.args.now (in_order c.self.inside.keeper).holds) in
    ap (λ (j : Joiner). j.kept) is ∙ ap (λ (v : JoinerValue). (aged c.args.now v.holds).kept) c.self.view_is

pub returns-clause-told : goal.returns-clause-told
returns-clause-told c =
    c.age.ensures.told
    ∙ (ap (λ (a : Age). young_of a (arranged c.self.inside.keeper.told)) c.week.ensures
    ∙ ap (λ (v : JoinerValue). young_sets c.args.now v.told) c.self.view_is)

pub invariant_of-self : goal.invariant_of-self
invariant_of-self c =
    age_for None c.args.now c.self.inside.keeper c.age.new.self c.have_kept.ensures c.have_kept-2.ensures
    (kept_aged c.week.result c.self.inside.keeper c.age.new.self c.have_kept.ensures.are_open c.age.ensures.told c.age.ensures.finished
    ∙ (ap (λ (a : Age). aged_after a.longest a.now (in_order c.self.inside.keeper).holds) c.week.ensures
    ∙ week_aged c.args.now (in_order c.self.inside.keeper).holds)) c.self.invariant
