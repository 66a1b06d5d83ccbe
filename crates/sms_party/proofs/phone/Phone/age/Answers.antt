use Rattle.std.proofs.Common.{sym, subst}
use Rattle.sms_party.specs.Phone.{PhoneValue}
use Rattle.sms_party.specs.Receiver.Standing.{StandsFor}
use Rattle.sms_party.proofs.phone.Phone.age.Goals as goal

pub returns-clause-receiver : goal.returns-clause-receiver
returns-clause-receiver c = λ limits s size stands.
    c.age.ensures limits s size (subst (λ (v : PhoneValue). StandsFor limits v.receiver s) (sym c.self.view_is) stands)
