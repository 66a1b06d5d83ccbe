-- The piece of a message that a delivery brings.
use Rattle.std.specs.Prelude.{ℕ}
use Rattle.sms_tpdu.specs.Deliver.{Delivery}
use Rattle.sms_join.specs.declared.units.Units.{Units}
use Rattle.sms_join.specs.Piece.{Piece, piece_of}
use Rattle.sms_tpdu.specs.UserData.ConcatenationFound.{concat_of_header}

-- Its place is the one that its header tells, if it has one that tells a place; else it is a
-- message by itself.
abbrev pub piece_in : ℕ → Delivery → Units → Piece
piece_in now d us = piece_of now d.origin d.stamp (concat_of_header d.user.header) us
