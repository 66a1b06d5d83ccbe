use Rattle.sms_once.proofs.Anew.{finish_in_turn}
use Rattle.sms_once.proofs.laws.messages_finish_in_turn.Goals as goal

pub returns : goal.returns
returns c = finish_in_turn
