use Rattle.std.proofs.Common.{◌≡◌, List, ℕ, sym, ap, ◌∙◌, subst}
use Rattle.circular_buffer.specs.Buffer.{Buffer, buffer}
use Rattle.sms_join.proofs.FallingMoments.{Goes, goes_first, goes_on, goes_young, goes_empty}
use Rattle.sms_join.proofs.finishings.forget_old.Goals as goal

both : (b : Buffer ℕ) (ms : List ℕ) (n : ℕ) → b.items ≡ ms → b.capacity ≡ n → b ≡ buffer ms n
both b ms n p q = λ i. record { items = p i; capacity = q i }

pub loop-moment-init : goal.loop-moment-init
loop-moment-init c = (goes_first c.args.age c.args.finishings.now.items, λ i. c.args.finishings.now.capacity)

pub returns-then-not-is_past : goal.returns-then-not-is_past
returns-then-not-is_past c =
    both c.loop-moment.finishings _ c.args.finishings.now.capacity
    (goes_young c.args.age c.args.finishings.now.items c.loop-moment.finishings.items c.in-Some.moment.now c.requires (sym c.in-Some.ensures) (sym c.is_past.ensures ∙ c.if-not-is_past.true) c.loop-moment.invariant.0)
    c.loop-moment.invariant.1

pub loop-moment-preserved : goal.loop-moment-preserved
loop-moment-preserved c = (
  subst (Goes c.args.age c.args.finishings.now.items) (sym (ap (λ (b : Buffer ℕ). b.items) c.pop_back.ensures.items))
      (goes_on c.args.age c.args.finishings.now.items c.loop-moment.finishings.items c.in-Some.moment.now (sym c.in-Some.ensures) (sym c.is_past.ensures ∙ c.if-not-is_past.false) c.loop-moment.invariant.0),
  ap (λ (b : Buffer ℕ). b.capacity) c.pop_back.ensures.items ∙ c.loop-moment.invariant.1,
)

pub returns : goal.returns
returns c =
    both c.loop-moment.finishings _ c.args.finishings.now.capacity
    (goes_empty c.args.age c.args.finishings.now.items c.loop-moment.finishings.items (sym c.in_default.ensures) c.loop-moment.invariant.0)
    c.loop-moment.invariant.1
