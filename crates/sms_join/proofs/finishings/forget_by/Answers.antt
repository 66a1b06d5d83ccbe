use Rattle.std.proofs.Common.{ℕ, Option, sym, ap, ◌∙◌}
use Rattle.circular_buffer.specs.Buffer.{buffer}
use Rattle.sms_join.specs.Gateway.Finishings.{finishings_at}
use Rattle.sms_join.proofs.FallingMoments.{finishings_always}
use Rattle.sms_join.proofs.finishings.forget_by.Goals as goal

pub returns-in-None : goal.returns-in-None
returns-in-None c =
    ap (λ ms. buffer ms c.args.finishings.now.capacity)
    (sym (finishings_always c.args.now c.args.finishings.now.items)
    ∙ ap (λ (l : Option ℕ). finishings_at l c.args.now c.args.finishings.now.items) (sym c.in-None.is))
