use Rattle.sms_once.proofs.Once.{finishes_once_in_time}
use Rattle.sms_once.proofs.laws.pieces_finish_once_in_time.Goals as goal

pub returns : goal.returns
returns c = finishes_once_in_time
