use Rattle.sms_join.proofs.Pieces.{finishes_text}
use Rattle.sms_join.proofs.laws.pieces_finish_text.Goals as goal

pub returns : goal.returns
returns c = finishes_text
