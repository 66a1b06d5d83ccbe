use Rattle.std.proofs.Common.{sym, subst}
use Rattle.sms_party.specs.Receiver.Standing.{ReceiverValue, StandsFor}
use Rattle.sms_party.proofs.Storing.{ages_to}
use Rattle.sms_party.proofs.receiver.Receiver.age.Goals as goal

pub returns : goal.returns
returns c = λ limits s size stands.
    ages_to c.laws_of_joiners.ensures.ages c.laws_of_joiners.ensures.same limits (record { limit = c.self.inside.limit; joiner = c.self.inside.joiner; store = c.self.inside.store.items }) s c.args.now size c.age.new.self
    c.age.ensures.holds c.age.ensures.limits (subst (λ (v : ReceiverValue). StandsFor limits v s) (sym c.self.view_is) stands)
