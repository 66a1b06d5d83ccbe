use Rattle.sms_once.proofs.Timely.{timely_come_in_time}
use Rattle.sms_once.proofs.laws.timely_pieces_come_in_time.Goals as goal

pub returns : goal.returns
returns c = timely_come_in_time
