use Rattle.sms_join.proofs.Pieces.{finishes_once}
use Rattle.sms_join.proofs.laws.pieces_finish_once.Goals as goal

pub returns : goal.returns
returns c = finishes_once
