use Rattle.sms_join.proofs.Rooms.{stay_apart}
use Rattle.sms_join.proofs.laws.open_texts_stay_apart.Goals as goal

pub returns : goal.returns
returns c = stay_apart
