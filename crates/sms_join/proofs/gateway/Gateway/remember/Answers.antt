use Rattle.std.proofs.Common.{ℕ, ◌∷◌, take, sym, ap, ◌∙◌, subst}
use Rattle.circular_buffer.specs.Buffer.{Buffer}
use Rattle.sms_join.specs.Joiner.{is_among}
use Rattle.sms_join.specs.Joiner.Value.{JoinerValue}
use Rattle.sms_join.specs.OpenSets.{has_set}
use Rattle.sms_join.specs.Gateway.Distinct.{AreDistinct}
use Rattle.sms_join.specs.Gateway.Finishings.{not_before}
use Rattle.sms_join.specs.Gateway.Value.{GatewayValue}
use Rattle.sms_join.specs.Inside.Gateways.{AreTimed}
use Rattle.sms_join.proofs.PuttingBack.{timed_more, distinct_more}
use Rattle.sms_join.proofs.gateway.Gateway.remember.Goals as goal

pub invariant_of-self : goal.invariant_of-self
invariant_of-self c = (
  subst (λ (b : Buffer ℕ). AreTimed c.remember.new.self b.items b.capacity) (sym c.note_finishing.ensures)
      (subst (λ (v : JoinerValue). AreTimed v (take c.self.inside.finishings.capacity (not_before c.self.inside.finishings.items c.args.moment ∷ c.self.inside.finishings.items)) c.self.inside.finishings.capacity) (sym c.remember.ensures)
      (timed_more c.self.inside.keeper c.args.key c.args.moment c.self.inside.finishings.items c.self.inside.finishings.capacity c.self.invariant.0)),
  subst (λ (v : JoinerValue). AreDistinct v.holds) (sym c.remember.ensures)
      (distinct_more c.self.inside.keeper c.args.key c.have_kept.ensures
      (ap (λ (v : GatewayValue). has_set v.told c.args.key) c.self.view_is ∙ c.requires.closed)
      (ap (λ (v : GatewayValue). is_among v.holds.finished c.args.key) c.self.view_is ∙ c.requires.fresh) c.self.invariant.1),
)
