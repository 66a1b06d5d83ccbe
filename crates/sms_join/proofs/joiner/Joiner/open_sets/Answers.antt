use Rattle.std.proofs.Common.{None, subst}
use Rattle.sms_join.specs.Joiner.Value.{JoinerValue}
use Rattle.sms_join.specs.OpenSets.{AreOpen}
use Rattle.sms_join.specs.OpenSets.Told.{AreFor, RiseInTurn}
use Rattle.sms_join.proofs.Arranged.{arranged_open}
use Rattle.sms_join.proofs.Told.{arranged_climbs}
use Rattle.sms_join.proofs.ForRecipients.{told_for}
use Rattle.sms_join.proofs.joiner.Joiner.open_sets.Goals as goal

pub returns-clause-open : goal.returns-clause-open
returns-clause-open c =
    subst (λ (v : JoinerValue). AreOpen v.told) c.self.view_is (arranged_open c.self.inside.keeper.told c.have_kept.ensures.are_open)

pub returns-clause-rise : goal.returns-clause-rise
returns-clause-rise c =
    subst (λ (v : JoinerValue). RiseInTurn v.told) c.self.view_is (arranged_climbs c.self.inside.keeper.told c.have_kept.ensures.turns.apart)

pub returns-clause-recipients : goal.returns-clause-recipients
returns-clause-recipients c =
    subst (λ (v : JoinerValue). AreFor None v.told) c.self.view_is (told_for None c.self.inside.keeper c.have_kept.ensures c.self.invariant)
