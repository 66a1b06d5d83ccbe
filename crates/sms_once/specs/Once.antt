-- What becomes of the pieces of one message that are offered to a joiner for many recipients under
-- their key, among other offers and agings: as long as its key is remembered, the message finishes
-- just once. Lists have the newest entry first.
use Rattle.std.specs.Prelude.{◌≡◌, ◌≢◌, ℕ, true, false, if◌then◌else◌, List, [], ◌∷◌, ◌++◌, length, map}
use Rattle.sms_tpdu.specs.declared.user_data.concat.Width.{Width}
use Rattle.sms_join.specs.declared.key.Key.{Key}
use Rattle.sms_join.specs.declared.units.Units.{Units}
use Rattle.sms_join.specs.UnitsOfText.{IsText}
use Rattle.sms_join.specs.Cut.{IsCut}
use Rattle.sms_join.specs.Reading.{text_of_segments}
use Rattle.sms_join.specs.Key.{same_key}
use Rattle.sms_join.specs.Piece.{Piece}
use Rattle.sms_join.specs.Joiner.Sets.{has_all, is_open}
use Rattle.sms_join.specs.Joiner.{Joiner, Finished, TooManyOpen, is_among}
use Rattle.sms_join.specs.Joiner.Acts.{Act, Brings, Ages, brought}
use Rattle.sms_join.specs.Joiner.Aging.{is_old_after}
use Rattle.sms_join.specs.Arrivals.Pieces.{finished_now, ArePieces}
use Rattle.sms_join.specs.Gateway.Answers.{gateway_answer, is_passed}
use Rattle.sms_join.specs.Gateway.Value.{LimitsValue}
use Rattle.sms_once.specs.Run.{Held, run}
use Rattle.sms_once.specs.Repeats.{StaysRemembered}

-- What the set of this key was finished with, each time.
abbrev pub finishes : LimitsValue → Held → Key → List (Act Piece) → List (List Units)
finishes limits h k [] = []
finishes limits h k (Brings p ∷ acts) =
    if same_key p.key k
    then finished_now (gateway_answer limits (run limits h acts).holds p)
    ++ finishes limits h k acts
    else finishes limits h k acts
finishes limits h k (Ages now ∷ acts) = finishes limits h k acts

-- No offer under the key was answered by too many open sets.
abbrev pub NoneRefused : LimitsValue → Held → Key → List (Act Piece) → Type 0
NoneRefused limits h k [] = Unit {0}
NoneRefused limits h k (Brings p ∷ acts) =
    (same_key p.key k ≡ true → gateway_answer limits (run limits h acts).holds p ≢ TooManyOpen)
    × NoneRefused limits h k acts
NoneRefused limits h k (Ages now ∷ acts) = NoneRefused limits h k acts

-- No aging dropped the set of the key.
abbrev pub NoneDropped : LimitsValue → Held → Key → List (Act Piece) → Type 0
NoneDropped limits h k [] = Unit {0}
NoneDropped limits h k (Brings p ∷ acts) = NoneDropped limits h k acts
NoneDropped limits h k (Ages now ∷ acts) =
    (is_old_after limits.open_for now (run limits h acts).holds.kept k ≡ false)
    × NoneDropped limits h k acts

-- The key is neither open nor remembered: what comes under it next begins anew.
pub record IsNew (j : Joiner) (k : Key) : Type 0 where
  pub not_open : is_open j.kept k ≡ false
  pub not_remembered : is_among j.finished k ≡ false

-- The pieces of a message are offered under its key in any order, with repeats, and with other
-- offers and agings between. By this offer, and by none before it, all pieces have come; what comes
-- after it comes while the key is remembered.
pub record ComeAllInTime (limits : LimitsValue) (h : Held) (k : Key) (pieces : List Units)
    (after : List (Act Piece)) (p : Piece) (before : List (Act Piece)) : Type 0 where
  -- it is no message in one piece where these are passed
  pub not_passed : is_passed limits.alone k ≡ false
  -- till then, under the key only pieces of the message are offered, and none is refused
  pub are_pieces : ArePieces k pieces (Brings p ∷ before)
  pub none_refused : NoneRefused limits h k before
  -- no aging drops the key between
  pub none_dropped : NoneDropped limits h k before
  -- this offer brings the last missing piece
  pub under_key : same_key p.key k ≡ true
  pub missing : has_all (brought before) k (length pieces) ≡ false
  pub all : has_all (p ∷ brought before) k (length pieces) ≡ true
  -- after it the key is not forgotten
  pub remembered : StaysRemembered limits (run limits h before) p after

-- Where the key is new at first, that offer finishes the set with the pieces in order, and no other
-- one under the key finishes it.
abbrev pub FinishesOnceInTime : Type 0
FinishesOnceInTime =
    (limits : LimitsValue) (h : Held) (k : Key) (pieces : List Units)
    (after : List (Act Piece)) (p : Piece) (before : List (Act Piece))
    → IsNew h.holds k
    → ComeAllInTime limits h k pieces after p before
    → (gateway_answer limits (run limits h before).holds p ≡ Finished pieces)
    × (finishes limits h k (after ++ Brings p ∷ before) ≡ pieces ∷ [])

-- Where they are the pieces of a text, what is finished is read as the text.
abbrev pub FinishesTextInTime : Type 0
FinishesTextInTime =
    (limits : LimitsValue) (h : Held) (k : Key) (pieces : List Units)
    (after : List (Act Piece)) (p : Piece) (before : List (Act Piece))
    (width : Width) (text : List ℕ)
    → IsNew h.holds k
    → ComeAllInTime limits h k pieces after p before
    → IsText text
    → IsCut width text pieces
    → map text_of_segments (finishes limits h k (after ++ Brings p ∷ before)) ≡ text ∷ []
