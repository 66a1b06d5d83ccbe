use Rattle.std.proofs.Common.{sym, ap, subst, ◌∙◌, Err}
use Rattle.sms_relay.specs.declared.side.Side.{Side}
use Rattle.sms_message.specs.declared.message.Relay.{Relay}
use Rattle.sms_message.specs.declared.message.Relay.TheVariants.{Answer}
use Rattle.sms_message.specs.declared.outcome.Dropped.TheVariants.{Unmatched}
use Rattle.sms_message.specs.Does.{Answered}
use Rattle.sms_party.specs.Sender.Answers.{sender_receives}
use Rattle.sms_party.specs.Sender.Stands.{SenderStands, in_messages}
use Rattle.sms_party.proofs.SenderSteps.{carried_over, heard, nothing_comes}
use Rattle.sms_party.specs.Inside.Sender.{hears_at}
use Rattle.sms_party.proofs.SenderFew.{few_did, hears_few}
use Rattle.sms_party.proofs.sender.Sender.take_answer.Goals as goal

pub returns-in-FromPhone-clause-steps : goal.returns-in-FromPhone-clause-steps
unfolding sender_receives
returns-in-FromPhone-clause-steps c = λ phone x stands.
    subst (λ (r : Relay). Answered (SenderStands phone c.args.self.now) x (in_messages (sender_receives x phone c.args.tag r)) (Err Unmatched)) (sym (c.in-Answer.is ∙ ap (λ (s : Side). Answer s c.in-Answer.cause c.in-Answer.report) c.in-FromPhone.is))
    (nothing_comes phone x c.args.self.now stands)

pub returns-in-ToPhone-clause-steps : goal.returns-in-ToPhone-clause-steps
unfolding sender_receives
returns-in-ToPhone-clause-steps c = λ phone x stands.
    subst (λ (r : Relay). Answered (SenderStands phone c.hear.new.self) x (in_messages (sender_receives x phone c.args.tag r)) c.hear.result) (sym (c.in-Answer.is ∙ ap (λ (s : Side). Answer s c.in-Answer.cause c.in-Answer.report) c.in-ToPhone.is))
    (carried_over phone x c.args.self.now c.hear.new.self _ _ c.hear.result stands (heard phone x c.args.self.now stands c.args.tag c.in-Answer.cause c.in-Answer.report) c.hear.ensures.did)

pub returns-in-Transfer-clause-steps : goal.returns-in-Transfer-clause-steps
unfolding sender_receives
returns-in-Transfer-clause-steps c = λ phone x stands.
    subst (λ (r : Relay). Answered (SenderStands phone c.args.self.now) x (in_messages (sender_receives x phone c.args.tag r)) (Err Unmatched)) (sym c.in-Transfer.is)
    (nothing_comes phone x c.args.self.now stands)

pub returns-in-UnknownType-clause-steps : goal.returns-in-UnknownType-clause-steps
unfolding sender_receives
returns-in-UnknownType-clause-steps c = λ phone x stands.
    subst (λ (r : Relay). Answered (SenderStands phone c.args.self.now) x (in_messages (sender_receives x phone c.args.tag r)) (Err Unmatched)) (sym c.in-UnknownType.is)
    (nothing_comes phone x c.args.self.now stands)

pub returns-in-Unreadable-clause-steps : goal.returns-in-Unreadable-clause-steps
unfolding sender_receives
returns-in-Unreadable-clause-steps c = λ phone x stands.
    subst (λ (r : Relay). Answered (SenderStands phone c.args.self.now) x (in_messages (sender_receives x phone c.args.tag r)) (Err Unmatched)) (sym c.in-Unreadable.is)
    (nothing_comes phone x c.args.self.now stands)

pub returns-in-ToPhone-clause-few : goal.returns-in-ToPhone-clause-few
returns-in-ToPhone-clause-few c =
    few_did (hears_at c.args.self.now c.args.tag c.in-Answer.cause c.in-Answer.report c.args.self.now.pending) c.args.self.now c.hear.new.self c.hear.result
    (hears_few c.args.self.now c.args.tag c.in-Answer.cause c.in-Answer.report c.args.self.now.pending) c.hear.ensures.did
