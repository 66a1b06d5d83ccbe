use Rattle.std.proofs.Common.{subst}
use Rattle.sms_join.specs.Gateway.Value.{GatewayValue}
use Rattle.sms_join.specs.OpenSets.{AreOpen}
use Rattle.sms_join.specs.OpenSets.Told.{RiseInTurn}
use Rattle.sms_join.proofs.Arranged.{arranged_open}
use Rattle.sms_join.proofs.Told.{arranged_climbs}
use Rattle.sms_join.proofs.gateway.Gateway.open_sets.Goals as goal

pub returns-clause-open : goal.returns-clause-open
returns-clause-open c =
    subst (λ (v : GatewayValue). AreOpen v.told) c.self.view_is (arranged_open c.self.inside.keeper.told c.have_kept.ensures.are_open)

pub returns-clause-rise : goal.returns-clause-rise
returns-clause-rise c =
    subst (λ (v : GatewayValue). RiseInTurn v.told) c.self.view_is (arranged_climbs c.self.inside.keeper.told c.have_kept.ensures.turns.apart)
