use Rattle.std.proofs.Common.{◌<◌, length, sym, ap, ◌∙◌, subst}
use Rattle.sms_join.specs.Joiner.{is_among}
use Rattle.sms_join.specs.Gateway.Value.{GatewayValue}
use Rattle.sms_join.specs.OpenSets.{has_set}
use Rattle.sms_join.proofs.Arranged.{arranged_length, has_arranged}
use Rattle.sms_join.proofs.PuttingBack.{timed_stays, distinct_back}
use Rattle.sms_join.proofs.gateway.Gateway.put_back.Goals as goal

pub put_back-done-requires-clause-closed : goal.put_back-done-requires-clause-closed
put_back-done-requires-clause-closed c =
    sym (has_arranged c.self.inside.keeper.told c.args.key)
    ∙ (ap (λ (v : GatewayValue). has_set v.told c.args.key) c.self.view_is ∙ c.requires.closed)

pub put_back-done-requires-clause-few : goal.put_back-done-requires-clause-few
put_back-done-requires-clause-few c =
    subst (λ n. n < c.self.inside.keeper.open_max) (arranged_length c.self.inside.keeper.told)
    (subst (λ (v : GatewayValue). length v.told < v.limits.open_max) (sym c.self.view_is) c.requires.few)

pub invariant_of-self : goal.invariant_of-self
invariant_of-self c = (
  timed_stays c.self.inside.keeper c.put_back-done.new.self c.self.inside.finishings.items c.self.inside.finishings.capacity c.self.invariant.0 c.put_back-done.ensures.limits c.put_back-done.ensures.finished,
  distinct_back c.self.inside.keeper c.put_back-done.new.self c.args.key c.args.moment c.args.places.items c.put_back-done.result c.put_back-done.ensures.told c.put_back-done.ensures.refused
      c.put_back-done.ensures.finished c.have_kept.ensures c.have_kept-2.ensures
      (ap (λ (v : GatewayValue). is_among v.holds.finished c.args.key) c.self.view_is ∙ c.requires.fresh) c.self.invariant.1,
)
