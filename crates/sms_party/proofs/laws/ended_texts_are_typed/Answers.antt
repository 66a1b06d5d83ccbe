use Rattle.sms_party.proofs.Ended.{ended_are_typed}
use Rattle.sms_party.proofs.laws.ended_texts_are_typed.Goals as goal

pub returns : goal.returns
returns c = ended_are_typed
