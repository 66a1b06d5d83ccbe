use Rattle.std.proofs.Common.{◌≡◌, ℕ, false, ◌∷◌, take, sym, ap, ◌∙◌, subst}
use Rattle.std.proofs.lemmas.Bool.{not-true}
use Rattle.circular_buffer.specs.Buffer.{Buffer}
use Rattle.sms_join.specs.Joiner.{is_among}
use Rattle.sms_join.specs.Joiner.Value.{JoinerValue}
use Rattle.sms_join.specs.OpenSets.{has_set}
use Rattle.sms_join.specs.Gateway.Distinct.{AreDistinct}
use Rattle.sms_join.specs.Gateway.Finishings.{not_before}
use Rattle.sms_join.specs.Gateway.Value.{GatewayValue}
use Rattle.sms_join.specs.Inside.Gateways.{AreTimed}
use Rattle.sms_join.specs.Inside.Keeping.{with_key}
use Rattle.sms_join.proofs.PuttingBack.{timed_more, distinct_more}
use Rattle.sms_join.proofs.gateway.Gateway.remember_new.Goals as goal

pub invariant_of-self-2 : goal.invariant_of-self-2
invariant_of-self-2 c =
    let more : c.remember_new.new.self ≡ with_key c.self.inside.keeper c.args.key = c.remember_new.ensures.remembered c.if-not-remember_new.false in
    let fresh : is_among c.self.inside.keeper.holds.finished c.args.key ≡ false =
    not-true (is_among c.self.inside.keeper.holds.finished c.args.key) (sym c.remember_new.ensures.is_new ∙ c.if-not-remember_new.false) in (
      subst (λ (b : Buffer ℕ). AreTimed c.remember_new.new.self b.items b.capacity) (sym c.note_finishing.ensures)
          (subst (λ (v : JoinerValue). AreTimed v (take c.self.inside.finishings.capacity (not_before c.self.inside.finishings.items c.args.moment ∷ c.self.inside.finishings.items)) c.self.inside.finishings.capacity) (sym more)
          (timed_more c.self.inside.keeper c.args.key c.args.moment c.self.inside.finishings.items c.self.inside.finishings.capacity c.self.invariant.0)),
      subst (λ (v : JoinerValue). AreDistinct v.holds) (sym more)
          (distinct_more c.self.inside.keeper c.args.key c.have_kept.ensures
          (ap (λ (v : GatewayValue). has_set v.told c.args.key) c.self.view_is ∙ c.requires.closed)
          fresh c.self.invariant.1),
    )
