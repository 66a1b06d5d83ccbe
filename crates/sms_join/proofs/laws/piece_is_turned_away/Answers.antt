use Rattle.sms_join.proofs.Turned.{turned_away}
use Rattle.sms_join.proofs.laws.piece_is_turned_away.Goals as goal

pub returns : goal.returns
returns c = turned_away
