use Rattle.sms_join.proofs.ReadingLaws.{cut_read}
use Rattle.sms_join.proofs.laws.cut_is_read_as_text.Goals as goal

pub returns : goal.returns
returns c = cut_read
