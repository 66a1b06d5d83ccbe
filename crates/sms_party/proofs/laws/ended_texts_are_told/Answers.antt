use Rattle.sms_party.proofs.Ended.{ended_are_told}
use Rattle.sms_party.proofs.laws.ended_texts_are_told.Goals as goal

pub returns : goal.returns
returns c = ended_are_told
