use Rattle.std.proofs.Common.{Option, sym, ap, subst, ◌∙◌, Err}
use Rattle.sms_message.specs.declared.request.NotTaken.{NotTaken}
use Rattle.sms_message.specs.declared.request.NotTaken.TheVariants as untaken
use Rattle.sms_message.specs.declared.outcome.Dropped.TheVariants.{Unmatched}
use Rattle.sms_party.specs.Receiver.Offers.{turned_away}
use Rattle.sms_party.specs.Receiver.Standing.{ReceiverAnswers}
use Rattle.sms_party.proofs.Storing.{puts_answer, nothing_comes}
use Rattle.sms_party.proofs.receiver.Receiver.turn_away.Goals as goal

pub returns-in-Unmatched : goal.returns-in-Unmatched
returns-in-Unmatched c = λ limits s origin stands.
    subst (λ (why : NotTaken). ReceiverAnswers limits s (turned_away s c.args.tag why) (Err Unmatched) c.args.self.now) (sym c.in-Unmatched.is)
    (nothing_comes limits c.args.self.now s stands)

pub returns-in-None : goal.returns-in-None
returns-in-None c = λ limits s origin stands.
    subst (λ (why : NotTaken). ReceiverAnswers limits s (turned_away s c.args.tag why) c.relay_refusal_in.result c.args.self.now) (sym (c.in-Refused.is ∙ ap (λ (f : Option _). untaken.Refused c.in-Refused.cause f) c.in-None.is))
    (puts_answer limits c.args.self.now s _ _ c.relay_refusal_in.result stands c.relay_refusal_in.ensures)

pub returns-in-Some : goal.returns-in-Some
returns-in-Some c = λ limits s origin stands.
    subst (λ (why : NotTaken). ReceiverAnswers limits s (turned_away s c.args.tag why) c.refusal.result c.args.self.now) (sym (c.in-Refused.is ∙ ap (λ (f : Option _). untaken.Refused c.in-Refused.cause f) c.in-Some.is))
    (puts_answer limits c.args.self.now s _ _ c.refusal.result stands c.refusal.ensures)
