use Rattle.sms_join.proofs.Turned.{no_repeat}
use Rattle.sms_join.proofs.laws.new_piece_is_fresh.Goals as goal

pub returns : goal.returns
returns c = no_repeat
