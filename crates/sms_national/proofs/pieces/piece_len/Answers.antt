use Rattle.std.proofs.Common.{refl, arith}
use Rattle.sms_national.proofs.PieceLaws.{all_are_piece, room_is_piece, fewer_are_piece, is_escape, no_escape}
use Rattle.sms_national.proofs.pieces.piece_len.Goals as goal

pub returns-then-septets-room-clause-piece : goal.returns-then-septets-room-clause-piece
returns-then-septets-room-clause-piece c = all_are_piece _ _ _ refl c.requires.some (omega arith) c.requires.whole

pub returns-then-septets-room-eq-ESCAPE-clause-piece : goal.returns-then-septets-room-eq-ESCAPE-clause-piece
returns-then-septets-room-eq-ESCAPE-clause-piece c =
    fewer_are_piece _ _ _ refl c.requires.room (omega arith) c.requires.apart (is_escape _ c.if-septets-room-eq-ESCAPE.true)

pub returns-else-septets-room-eq-ESCAPE-clause-piece : goal.returns-else-septets-room-eq-ESCAPE-clause-piece
returns-else-septets-room-eq-ESCAPE-clause-piece c =
    room_is_piece _ _ _ refl c.requires.room (omega arith) c.requires.apart (no_escape _ c.if-septets-room-eq-ESCAPE.false)
