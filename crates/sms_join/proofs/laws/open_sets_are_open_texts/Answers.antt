use Rattle.sms_join.proofs.Rooms.{open_sets_are}
use Rattle.sms_join.proofs.laws.open_sets_are_open_texts.Goals as goal

pub returns : goal.returns
returns c = open_sets_are
