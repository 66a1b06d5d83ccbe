use Rattle.std.proofs.Common.{Result, sym, subst, ◌∙◌}
use Rattle.sms_tpdu.specs.Deliver.{Delivery}
use Rattle.sms_message.specs.declared.request.NotTaken.{NotTaken}
use Rattle.sms_party.specs.Receiver.{delivered, receiver_takes}
use Rattle.sms_party.specs.Receiver.Standing.{ReceiverAnswers}
use Rattle.sms_party.proofs.receiver.Receiver.take_unit.Goals as goal

pub returns-in-Ok-clause-steps : goal.returns-in-Ok-clause-steps
unfolding receiver_takes
returns-in-Ok-clause-steps c = λ limits s origin stands.
    subst (λ (r : Result Delivery NotTaken). ReceiverAnswers limits s (delivered limits s c.args.now c.args.tag origin r) c.take_delivery.result c.take_delivery.new.self) (sym c.in-Ok.is ∙ c.delivery_from.ensures.delivery)
    (c.take_delivery.ensures.steps limits s origin stands)

pub returns-in-Err-clause-steps : goal.returns-in-Err-clause-steps
unfolding receiver_takes
returns-in-Err-clause-steps c = λ limits s origin stands.
    subst (λ (r : Result Delivery NotTaken). ReceiverAnswers limits s (delivered limits s c.args.now c.args.tag origin r) c.turn_away.result c.args.self.now) (sym c.in-Err.is ∙ c.delivery_from.ensures.delivery)
    (c.turn_away.ensures limits s origin stands)
