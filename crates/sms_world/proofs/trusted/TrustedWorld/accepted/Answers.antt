use Rattle.std.proofs.Common.{sym, ap, subst}
use Rattle.sms_world.specs.Trusted.{TrustedValue, IsTrusted, AcceptedIsTold, AcceptedMeansAccepted}
use Rattle.sms_world.proofs.Trusting.{told_so, means_so}
use Rattle.sms_world.proofs.trusted.TrustedWorld.accepted.Goals as goal

pub returns-clause-comes : goal.returns-clause-comes
returns-clause-comes c = subst (λ (w : TrustedValue). IsTrusted w) c.self.view_is c.self.invariant.1

pub returns-clause-told : goal.returns-clause-told
returns-clause-told c =
    subst (λ d. AcceptedIsTold c.args.self.now d) (sym (ap (λ (w : TrustedValue). w.doubt) c.self.view_is)) (told_so c.args.self.now)

pub returns-clause-means : goal.returns-clause-means
returns-clause-means c =
    subst (λ d. AcceptedMeansAccepted c.args.self.now d) (sym (ap (λ (w : TrustedValue). w.doubt) c.self.view_is)) (means_so c.claims_hold.ensures.accepted c.args.self.now)
