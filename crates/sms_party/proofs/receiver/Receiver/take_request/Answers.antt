use Rattle.std.proofs.Common.{Result, sym, subst, ◌∙◌}
use Rattle.sms_message.specs.declared.message.TransferUnit.{TransferUnit}
use Rattle.sms_message.specs.declared.request.NotTaken.{NotTaken}
use Rattle.sms_party.specs.Receiver.{requested, receiver_opened}
use Rattle.sms_party.specs.Receiver.Standing.{ReceiverAnswers}
use Rattle.sms_party.proofs.receiver.Receiver.take_request.Goals as goal

pub returns-in-Ok-clause-steps : goal.returns-in-Ok-clause-steps
unfolding receiver_opened
returns-in-Ok-clause-steps c = λ limits s origin stands.
    subst (λ (r : Result TransferUnit NotTaken). ReceiverAnswers limits s (requested limits s c.args.now c.args.tag origin r) c.take_unit.result c.take_unit.new.self) (sym c.in-Ok.is ∙ c.unit_from.ensures.unit)
    (c.take_unit.ensures.steps limits s origin stands)

pub returns-in-Err-clause-steps : goal.returns-in-Err-clause-steps
unfolding receiver_opened
returns-in-Err-clause-steps c = λ limits s origin stands.
    subst (λ (r : Result TransferUnit NotTaken). ReceiverAnswers limits s (requested limits s c.args.now c.args.tag origin r) c.turn_away.result c.args.self.now) (sym c.in-Err.is ∙ c.unit_from.ensures.unit)
    (c.turn_away.ensures limits s origin stands)
