-- A piece is taken: the clock goes on, what is old then is dropped, and the piece is offered.
use Rattle.std.specs.Prelude.{◌≡◌, ℕ, Bool, nat_le, if◌then◌else◌, List, [], ◌∷◌, Option, None, MatchBool}
use Rattle.std.specs.Str.{chars}
use Rattle.sms_field.specs.Address.Value.{AddressValue}
use Rattle.sms_join.specs.Piece as joined
use Rattle.sms_join.specs.Piece.{piece_to}
use Rattle.sms_join.specs.Reading.{text_of_segments}
use Rattle.sms_join.specs.Gateway.Answers.{gateway_would_finish}
use Rattle.sms_page.specs.Page.{PageValue, Puts}
use Rattle.sms_told.specs.Answers.{SourceValue, whole_of}
use Rattle.sms_told.specs.Offers.{TellsPiece}
use Rattle.sms_told.specs.Texts.{whole_text}
use Rattle.sms_stream.specs.declared.piece.Piece.{Piece}
use Rattle.sms_stream.specs.Aging.{aging_text, clock_after, GoesOn}
use Rattle.sms_stream.specs.declared.clock.Clock.{Clock}
use Rattle.sms_stream.specs.Clock.{opened_at}
use Rattle.sms_stream.specs.Losses.{away_then}
use Rattle.sms_stream.specs.Pieces.{is_unknown, moment_in, stamp_in}
use Rattle.sms_stream.specs.Stream.{StreamValue}

-- where a piece comes from: its line, for whom it is, whom it is from, and its moment
abbrev pub source_of : ℕ → Option AddressValue → Piece → Option ℕ → SourceValue
source_of number recipient piece moment =
    record { number = number; recipient = recipient; origin = piece.origin; moment = moment }

-- ---- a message in one piece without a stamp

-- It is told as it is, and nothing else is done.
pub record Passes (old new : StreamValue) (number : ℕ) (recipient : Option AddressValue)
    (piece : Piece) (page page_then : PageValue) : Type 0 where
  pub text : List ℕ
  pub is_text : chars text ≡ text_of_segments (piece.units ∷ [])
  pub told : Puts page page_then
      (whole_text old.telling.form (whole_of old.telling (source_of number recipient piece None) text))
  pub stays : new ≡ old

-- ---- any other piece

-- the piece, at this moment
abbrev pub piece_at : Option AddressValue → Piece → ℕ → joined.Piece
piece_at recipient piece now =
    piece_to now recipient piece.origin (stamp_in piece) piece.concat piece.units

-- It counts at the moment of its stamp where that lies ahead of the clock, else at the clock. A text
-- that it finishes counts as finished at the clock.
abbrev pub counts_at : StreamValue → Option AddressValue → Piece → ℕ
counts_at s recipient piece =
    let opened = opened_at s.clock (moment_in piece) in
    if nat_le opened s.clock.time then opened
    else (if gateway_would_finish s.joiner.limits s.joiner.holds (piece_at recipient piece opened)
    then s.clock.time else opened)

-- The clock goes on with it, but with a message that is passed.
abbrev pub clock_then : Clock → Piece → Clock
clock_then clock piece =
    if is_unknown piece then clock else clock_after clock piece.origin (moment_in piece)

-- The piece is offered, and just the answer is told.
pub record Offers (old new : StreamValue) (number : ℕ) (recipient : Option AddressValue)
    (piece : Piece) (page page_then : PageValue) : Type 0 where
  pub away : Bool
  pub tells : TellsPiece old.joiner new.joiner old.telling
      (source_of number recipient piece (moment_in piece))
      (piece_at recipient piece (counts_at old recipient piece)) page page_then away
  pub losses : new.losses ≡ away_then old.losses away
  pub clock : new.clock ≡ old.clock
  pub telling : new.telling ≡ old.telling

-- Old sets are told and dropped before it is.
pub record GoesOnAndOffers (old new : StreamValue) (number : ℕ) (recipient : Option AddressValue)
    (piece : Piece) (page page_then : PageValue) : Type 0 where
  pub between : StreamValue
  pub page_between : PageValue
  pub goes_on : GoesOn old between piece.origin (moment_in piece)
  pub told : Puts page page_between (aging_text old between.clock.time)
  pub offers : Offers between new number recipient piece page_between page_then

abbrev pub Takes : StreamValue → StreamValue → ℕ → Option AddressValue → Piece → PageValue
    → PageValue → Type 0
Takes old new number recipient piece page page_then =
    MatchBool (is_unknown piece)
    (Passes old new number recipient piece page page_then)
    (GoesOnAndOffers old new number recipient piece page page_then)
