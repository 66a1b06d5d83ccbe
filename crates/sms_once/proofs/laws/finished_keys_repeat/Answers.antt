use Rattle.sms_once.proofs.Once.{repeats_in_time}
use Rattle.sms_once.proofs.laws.finished_keys_repeat.Goals as goal

pub returns : goal.returns
returns c = repeats_in_time
