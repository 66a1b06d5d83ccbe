use Rattle.sms_join.proofs.InTimes.{remembers_in_time}
use Rattle.sms_join.proofs.in_time.remembers_in_time.Goals as goal

pub returns : goal.returns
returns c = remembers_in_time
