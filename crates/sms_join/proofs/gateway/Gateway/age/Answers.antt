use Rattle.std.proofs.Common.{ℕ, ap, ◌∙◌, subst}
use Rattle.circular_buffer.specs.Buffer.{Buffer}
use Rattle.sms_join.specs.Joiner.{Joiner}
use Rattle.sms_join.specs.Joiner.Same.{IsSame}
use Rattle.sms_join.specs.Gateway.Answers.{gateway_aged}
use Rattle.sms_join.specs.Gateway.Finishings.{finishings_at}
use Rattle.sms_join.specs.Gateway.Value.{GatewayValue}
use Rattle.sms_join.specs.Inside.Keeping.{in_order}
use Rattle.sms_join.proofs.Gateways.{timed_age, holds_age, distinct_age}
use Rattle.sms_join.proofs.Same.{same_refl}
use Rattle.sms_join.proofs.gateway.Gateway.age.Goals as goal

pub invariant_of-self : goal.invariant_of-self
invariant_of-self c = (
  timed_age c.self.inside.remember_for c.args.now c.self.inside.keeper c.age.new.self c.keep.new.self c.self.inside.finishings.items c.forget_by.new.finishings.items c.self.inside.finishings.capacity c.forget_by.new.finishings.capacity c.len.result
      c.self.invariant.0 c.age.ensures.limits c.age.ensures.finished (ap (λ (b : Buffer ℕ). b.items) c.forget_by.ensures) (ap (λ (b : Buffer ℕ). b.capacity) c.forget_by.ensures) c.len.ensures.len c.keep.ensures,
  distinct_age c.self.inside.remember_for c.args.now c.self.inside.keeper c.age.new.self c.keep.new.self c.self.inside.finishings.items c.forget_by.new.finishings.items c.self.inside.finishings.capacity c.forget_by.new.finishings.capacity c.len.result
      c.self.invariant.0 c.age.ensures.limits c.age.ensures.finished (ap (λ (b : Buffer ℕ). b.items) c.forget_by.ensures) (ap (λ (b : Buffer ℕ). b.capacity) c.forget_by.ensures) c.len.ensures.len c.keep.ensures
      c.self.inside.alone c.self.inside.open_for c.have_kept.ensures c.have_kept-2.ensures c.age.ensures.told c.self.invariant.1,
)

pub returns-clause-holds : goal.returns-clause-holds
returns-clause-holds c =
    subst (λ (v : GatewayValue). IsSame (in_order c.keep.new.self).holds (gateway_aged v c.args.now)) c.self.view_is
    (subst (λ (j : Joiner). IsSame (in_order c.keep.new.self).holds j)
    (holds_age c.self.inside.remember_for c.args.now c.self.inside.keeper c.age.new.self c.keep.new.self c.self.inside.finishings.items c.forget_by.new.finishings.items c.self.inside.finishings.capacity c.forget_by.new.finishings.capacity c.len.result
    c.self.invariant.0 c.age.ensures.limits c.age.ensures.finished (ap (λ (b : Buffer ℕ). b.items) c.forget_by.ensures) (ap (λ (b : Buffer ℕ). b.capacity) c.forget_by.ensures) c.len.ensures.len c.keep.ensures
    c.self.inside.alone c.self.inside.open_for c.have_kept.ensures.are_open c.age.ensures.told)
    (same_refl (in_order c.keep.new.self).holds))

pub returns-clause-order : goal.returns-clause-order
returns-clause-order c =
    ap (λ (j : Joiner). j.kept)
    (holds_age c.self.inside.remember_for c.args.now c.self.inside.keeper c.age.new.self c.keep.new.self c.self.inside.finishings.items c.forget_by.new.finishings.items c.self.inside.finishings.capacity c.forget_by.new.finishings.capacity c.len.result
    c.self.invariant.0 c.age.ensures.limits c.age.ensures.finished (ap (λ (b : Buffer ℕ). b.items) c.forget_by.ensures) (ap (λ (b : Buffer ℕ). b.capacity) c.forget_by.ensures) c.len.ensures.len c.keep.ensures
    c.self.inside.alone c.self.inside.open_for c.have_kept.ensures.are_open c.age.ensures.told)
    ∙ ap (λ (v : GatewayValue). (gateway_aged v c.args.now).kept) c.self.view_is

pub returns-clause-finishings : goal.returns-clause-finishings
returns-clause-finishings c =
    ap (λ (b : Buffer ℕ). b.items) c.forget_by.ensures
    ∙ ap (λ (v : GatewayValue). finishings_at v.limits.remember_for c.args.now v.finishings) c.self.view_is
