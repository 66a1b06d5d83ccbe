use Rattle.sms_party.proofs.SenderSteps.{new_stands}
use Rattle.sms_party.proofs.sender.Sender.new.Goals as goal

pub returns : goal.returns
returns c = λ phone wide e. new_stands phone c.args.width c.args.reject wide c.new.result.items c.new-2.result.items e c.new.ensures.items c.new-2.ensures.items
