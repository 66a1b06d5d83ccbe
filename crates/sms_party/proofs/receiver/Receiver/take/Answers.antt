use Rattle.std.proofs.Common.{sym, ap, subst, ◌∙◌, Err}
use Rattle.sms_message.specs.declared.outcome.Dropped.TheVariants.{Unmatched}
use Rattle.sms_message.specs.declared.message.Message.{Message}
use Rattle.sms_message.specs.declared.message.Message.TheVariants.{Data}
use Rattle.sms_party.specs.Receiver.{receiver_receives}
use Rattle.sms_party.specs.Receiver.Standing.{ReceiverAnswers}
use Rattle.sms_party.specs.Receiver.Waits.{takes_up}
use Rattle.sms_party.proofs.Storing.{nothing_comes}
use Rattle.sms_party.proofs.Passing.{not_taken_up}
use Rattle.sms_party.proofs.receiver.Receiver.take.Goals as goal

pub returns-then-flag-clause-steps : goal.returns-then-flag-clause-steps
unfolding receiver_receives
returns-then-flag-clause-steps c = λ limits s origin stands.
    subst (λ (m : Message). ReceiverAnswers limits s (receiver_receives limits s c.args.now m origin) (Err Unmatched) c.args.self.now) (sym (c.in-Data.is ∙ ap (λ x. Data x c.in-Data.tag c.in-Data.relay) c.if-flag.true))
    (nothing_comes limits c.args.self.now s stands)

pub returns-else-flag-clause-steps : goal.returns-else-flag-clause-steps
unfolding receiver_receives
returns-else-flag-clause-steps c = λ limits s origin stands.
    subst (λ (m : Message). ReceiverAnswers limits s (receiver_receives limits s c.args.now m origin) c.take_request.result c.take_request.new.self) (sym (c.in-Data.is ∙ ap (λ x. Data x c.in-Data.tag c.in-Data.relay) c.if-flag.false))
    (c.take_request.ensures.steps limits s origin stands)

pub returns-in_default-clause-steps : goal.returns-in_default-clause-steps
returns-in_default-clause-steps c = c.pass.ensures.steps c.args.message (sym c.glance-seen.ensures)

pub pass-requires : goal.pass-requires
pass-requires c = ap takes_up c.glance-seen.ensures ∙ not_taken_up c.args.message c.in_default.not-Data
