use Rattle.std.proofs.Common.{subst}
use Rattle.sms_join.specs.Gateway.Distinct.{AreDistinct}
use Rattle.sms_join.specs.Gateway.Value.{GatewayValue}
use Rattle.sms_join.specs.Inside.Keeping.{in_order}
use Rattle.sms_join.proofs.DistinctKeys.{same_distinct}
use Rattle.sms_join.proofs.Keeping.{kept_same}
use Rattle.sms_join.proofs.gateway.Gateway.remembered_count.Goals as goal

pub returns-clause-distinct : goal.returns-clause-distinct
returns-clause-distinct c =
    subst (λ (v : GatewayValue). AreDistinct v.holds) c.self.view_is
    (same_distinct (in_order c.self.inside.keeper).holds c.self.inside.keeper.holds (kept_same c.self.inside.keeper c.have_kept.ensures) c.self.invariant.1)
