use Rattle.sms_once.proofs.Once.{finishes_text_in_time}
use Rattle.sms_once.proofs.laws.texts_finish_once_in_time.Goals as goal

pub returns : goal.returns
returns c = finishes_text_in_time c.cut_is_read_as_text.ensures
