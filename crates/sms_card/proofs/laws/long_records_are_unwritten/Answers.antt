use Rattle.sms_card.proofs.Lengths.{too_long_is_unwritten}
use Rattle.sms_card.proofs.laws.long_records_are_unwritten.Goals as goal

pub returns : goal.returns
returns c = too_long_is_unwritten
