use Rattle.sms_party.proofs.sender.Sender.enter.Goals as goal

pub returns-in-Ok-clause-did : goal.returns-in-Ok-clause-did
returns-in-Ok-clause-did c = c.append.ensures.did c.in-Ok.ensures.carries
