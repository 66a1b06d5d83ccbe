use Rattle.sms_party.proofs.sender.Sender.take.Goals as goal

pub returns-clause-steps : goal.returns-clause-steps
returns-clause-steps c = c.take_lent-step.ensures.steps
