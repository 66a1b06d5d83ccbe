use Rattle.std.proofs.Common.{refl, sym, ap, subst, ◌∙◌, Ok, Err}
use Rattle.sms_message.specs.declared.message.Message.{Message}
use Rattle.sms_message.specs.declared.message.Message.TheVariants.{Data}
use Rattle.sms_message.specs.declared.outcome.Outcome.TheVariants.{Noted}
use Rattle.sms_message.specs.declared.outcome.Step.{Step}
use Rattle.sms_message.specs.declared.outcome.Dropped.TheVariants.{Unmatched, NotCp}
use Rattle.sms_message.specs.Does.{Answered}
use Rattle.sms_party.specs.Sender.Putting.{sender_drops}
use Rattle.sms_party.specs.Sender.Answers.{sender_takes}
use Rattle.sms_party.specs.Sender.Stands.{SenderStands, in_messages}
use Rattle.sms_party.proofs.SenderParts.{no_packets}
use Rattle.sms_party.proofs.SenderSteps.{nothing_comes}
use Rattle.sms_party.proofs.sender.Sender.take_lent.Goals as goal

pub returns-in-NotCp-clause-steps : goal.returns-in-NotCp-clause-steps
unfolding sender_takes sender_drops
returns-in-NotCp-clause-steps c = λ phone x stands.
    subst (λ (m : Message). Answered (SenderStands phone c.args.self.now) x (in_messages (sender_takes x phone m)) (Err NotCp)) (sym c.in-NotCp.is) (refl, stands)

pub returns-in-Note-clause-steps : goal.returns-in-Note-clause-steps
unfolding sender_takes
returns-in-Note-clause-steps c = λ phone x stands.
    let step : Step = record { outcome = Noted; packets = c.no_packets.result } in
    subst (λ (m : Message). Answered (SenderStands phone c.args.self.now) x (in_messages (sender_takes x phone m)) (Ok step)) (sym c.in-Note.is) (refl, no_packets step c.no_packets.ensures, stands)

pub returns-in-Tiny-clause-steps : goal.returns-in-Tiny-clause-steps
unfolding sender_takes
returns-in-Tiny-clause-steps c = λ phone x stands.
    subst (λ (m : Message). Answered (SenderStands phone c.args.self.now) x (in_messages (sender_takes x phone m)) (Err Unmatched)) (sym c.in-Tiny.is) (nothing_comes phone x c.args.self.now stands)

pub returns-then-flag-clause-steps : goal.returns-then-flag-clause-steps
unfolding sender_takes
returns-then-flag-clause-steps c = λ phone x stands.
    subst (λ (m : Message). Answered (SenderStands phone c.take_answer.new.self) x (in_messages (sender_takes x phone m)) c.take_answer.result) (sym (c.in-Data.is ∙ ap (λ b. Data b c.in-Data.tag c.in-Data.relay) c.if-flag.true))
    (c.take_answer.ensures.steps phone x stands)

pub returns-else-flag-clause-steps : goal.returns-else-flag-clause-steps
unfolding sender_takes
returns-else-flag-clause-steps c = λ phone x stands.
    subst (λ (m : Message). Answered (SenderStands phone c.args.self.now) x (in_messages (sender_takes x phone m)) (Err Unmatched)) (sym (c.in-Data.is ∙ ap (λ b. Data b c.in-Data.tag c.in-Data.relay) c.if-flag.false))
    (nothing_comes phone x c.args.self.now stands)
