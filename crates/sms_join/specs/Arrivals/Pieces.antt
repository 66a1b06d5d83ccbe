-- The law of pieces: what becomes of the pieces of one message that are offered under its key,
-- among other offers and agings. All lists have the newest entry first. An offer for which memory
-- runs out leaves the joiner as it was, and is none here.
use Rattle.std.specs.Prelude.{◌≡◌, ◌≢◌, ℕ, ◌+◌, ◌-◌, ◌<◌, ◌≤◌, true, false, if◌then◌else◌, List, [], ◌∷◌, ◌++◌, length, get_or}
use Rattle.sms_tpdu.specs.declared.user_data.concat.Width.{Width}
use Rattle.sms_join.specs.declared.key.Key.{Key}
use Rattle.sms_join.specs.declared.units.Units.{Units}
use Rattle.sms_join.specs.declared.units.Units.TheVariants.{Gsm}
use Rattle.sms_join.specs.UnitsOfText.{IsText}
use Rattle.sms_join.specs.Cut.{IsCut}
use Rattle.sms_join.specs.Reading.{text_of_segments}
use Rattle.sms_join.specs.Key.{same_key}
use Rattle.sms_join.specs.Piece.{Piece}
use Rattle.sms_join.specs.Joiner.Sets.{is_open, has_all}
use Rattle.sms_join.specs.Joiner.{Joiner, Answer, Repeat, Kept, Finished, TooManyOpen, is_among, answer}
use Rattle.sms_join.specs.Joiner.Aging.{is_old}
use Rattle.sms_join.specs.Joiner.Acts.{Act, Brings, Ages, brought, acted_all}

-- What is offered under the key is one of the message's pieces: the maximum is their number, the
-- sequence is from 1 to it, and the units are those of this piece.
abbrev pub IsPiece : Key → List Units → Piece → Type 0
IsPiece k pieces p =
    same_key p.key k ≡ true
    → (p.maximum ≡ length pieces) × (0 < p.sequence) × (p.sequence ≤ length pieces)
    × (p.units ≡ get_or pieces (p.sequence - 1) (Gsm []))

abbrev pub ArePieces : Key → List Units → List (Act Piece) → Type 0
ArePieces k pieces [] = Unit {0}
ArePieces k pieces (Brings p ∷ acts) = IsPiece k pieces p × ArePieces k pieces acts
ArePieces k pieces (Ages now ∷ acts) = ArePieces k pieces acts

-- what an answer finishes: one list of units, or none
abbrev pub finished_now : Answer → List (List Units)
finished_now Repeat = []
finished_now Kept = []
finished_now (Finished units) = units ∷ []
finished_now TooManyOpen = []

-- What the set of this key was finished with, each time.
abbrev pub finishes : ℕ → ℕ → Joiner → Key → List (Act Piece) → List (List Units)
finishes open_max remembered j k [] = []
finishes open_max remembered j k (Brings p ∷ acts) =
    if same_key p.key k
    then finished_now (answer open_max (acted_all open_max remembered j acts) p)
    ++ finishes open_max remembered j k acts
    else finishes open_max remembered j k acts
finishes open_max remembered j k (Ages now ∷ acts) = finishes open_max remembered j k acts

-- How many offers under other keys finished.
abbrev pub others_finished : ℕ → ℕ → Joiner → Key → List (Act Piece) → ℕ
others_finished open_max remembered j k [] = 0
others_finished open_max remembered j k (Brings p ∷ acts) =
    if same_key p.key k
    then others_finished open_max remembered j k acts
    else length (finished_now (answer open_max (acted_all open_max remembered j acts) p))
    + others_finished open_max remembered j k acts
others_finished open_max remembered j k (Ages now ∷ acts) =
    others_finished open_max remembered j k acts

-- No offer under the key was answered by too many open sets.
abbrev pub NoneRefused : ℕ → ℕ → Joiner → Key → List (Act Piece) → Type 0
NoneRefused open_max remembered j k [] = Unit {0}
NoneRefused open_max remembered j k (Brings p ∷ acts) =
    (same_key p.key k ≡ true
    → answer open_max (acted_all open_max remembered j acts) p ≢ TooManyOpen)
    × NoneRefused open_max remembered j k acts
NoneRefused open_max remembered j k (Ages now ∷ acts) = NoneRefused open_max remembered j k acts

-- No aging dropped the set of the key.
abbrev pub NoneDropped : ℕ → ℕ → Joiner → Key → List (Act Piece) → Type 0
NoneDropped open_max remembered j k [] = Unit {0}
NoneDropped open_max remembered j k (Brings p ∷ acts) = NoneDropped open_max remembered j k acts
NoneDropped open_max remembered j k (Ages now ∷ acts) =
    (is_open (acted_all open_max remembered j acts).kept k ≡ true
    → is_old now (acted_all open_max remembered j acts).kept k ≡ false)
    × NoneDropped open_max remembered j k acts

-- The pieces of a message are offered under its key in any order, with repeats, and with other
-- offers and agings between. By this offer, and by none before it, all pieces have come.
pub record ComeAll (open_max remembered : ℕ) (j : Joiner) (k : Key) (pieces : List Units)
    (after : List (Act Piece)) (p : Piece) (before : List (Act Piece)) : Type 0 where
  -- at first the key is neither open nor remembered
  pub not_open : is_open j.kept k ≡ false
  pub not_remembered : is_among j.finished k ≡ false
  -- under the key only pieces of the message are offered, and none is refused
  pub are_pieces : ArePieces k pieces (after ++ Brings p ∷ before)
  pub none_refused : NoneRefused open_max remembered j k (after ++ Brings p ∷ before)
  -- no aging drops the key between
  pub none_dropped : NoneDropped open_max remembered j k before
  -- this offer brings the last missing piece
  pub under_key : same_key p.key k ≡ true
  pub missing : has_all (brought before) k (length pieces) ≡ false
  pub all : has_all (p ∷ brought before) k (length pieces) ≡ true
  -- after it fewer other keys finish than can be remembered
  pub few : others_finished open_max remembered
      (acted_all open_max remembered j (Brings p ∷ before)) k after
      < remembered

-- That offer finishes the set with the pieces in order, and no other offer under the key finishes
-- it.
abbrev pub FinishesOnce : Type 0
FinishesOnce =
    (open_max remembered : ℕ) (j : Joiner) (k : Key) (pieces : List Units)
    (after : List (Act Piece)) (p : Piece) (before : List (Act Piece))
    → ComeAll open_max remembered j k pieces after p before
    → (answer open_max (acted_all open_max remembered j before) p ≡ Finished pieces)
    × (finishes open_max remembered j k (after ++ Brings p ∷ before) ≡ pieces ∷ [])

-- Where they are the pieces of a text, what is finished is read as the text.
abbrev pub FinishesText : Type 0
FinishesText =
    (open_max remembered : ℕ) (j : Joiner) (k : Key) (pieces : List Units)
    (after : List (Act Piece)) (p : Piece) (before : List (Act Piece))
    (width : Width) (text : List ℕ) (units : List Units)
    → ComeAll open_max remembered j k pieces after p before
    → IsText text
    → IsCut width text pieces
    → answer open_max (acted_all open_max remembered j before) p ≡ Finished units
    → text_of_segments units ≡ text
