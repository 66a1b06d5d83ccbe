use Rattle.sms_party.proofs.Storing.{new_stands}
use Rattle.sms_party.proofs.receiver.Receiver.new.Goals as goal

pub returns : goal.returns
returns c = new_stands c.laws_of_joiners.ensures.same c.args.store c.args.open_max c.args.remembered c.in_ok-new.field-0 c.new-2.result.items c.in_ok-new.ensures c.new-2.ensures.items
