-- What comes of a stream.
use Rattle.std.specs.Prelude.{ℕ, Bool, List, [], ◌∷◌, is_none, unwrap_or, ◌&&◌, Option, None, Some}
use Rattle.sms_field.specs.Time.Computed.{moment_of}
use Rattle.sms_stream.specs.declared.piece.Piece.{Piece}

-- a message in one piece without a stamp, by which a repeat would be known
abbrev pub is_unknown : Piece → Bool
is_unknown piece = is_none piece.stamp && is_none piece.concat

abbrev pub moment_told : Option (List ℕ) → Option ℕ
moment_told None = None
moment_told (Some stamp) = moment_of stamp

-- the moment of its stamp, if it has one
abbrev pub moment_in : Piece → Option ℕ
moment_in piece = moment_told piece.stamp

-- its stamp, or one of zeros, by which no set is known
abbrev pub stamp_in : Piece → List ℕ
stamp_in piece = unwrap_or piece.stamp (0 ∷ 0 ∷ 0 ∷ 0 ∷ 0 ∷ 0 ∷ 0 ∷ [])
