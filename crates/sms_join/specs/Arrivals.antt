-- Pieces of texts that arrive at one joiner, each with the text that it is of: which texts have
-- arrived whole, and which in part. Texts are numbers. All lists have the newest entry first.
pub mod Completion
pub mod Joining
pub mod OpenTexts
pub mod Pieces
use Rattle.std.specs.Prelude.{◌≡◌, ℕ, zero, suc, ◌<◌, ◌≤◌, Bool, true, false, not, ◌&&◌, ◌||◌, if◌then◌else◌, ◌==◌, List, [], ◌∷◌, ◌++◌}
use Rattle.sms_join.specs.declared.key.Key.{Key}
use Rattle.sms_join.specs.declared.units.Units.{Units}
use Rattle.sms_join.specs.Piece.{Piece}

pub record Arrival : Type 0 where
  pub text : ℕ
  pub piece : Piece

-- Of each text: the key of its pieces, their number, and the units of each, the first being 1.
pub record Texts : Type 0 where
  pub key : ℕ → Key
  pub size : ℕ → ℕ
  pub units : ℕ → ℕ → Units

-- The arrival is a piece of its text.
pub record IsOf (x : Texts) (a : Arrival) : Type 0 where
  pub key : a.piece.key ≡ x.key a.text
  pub maximum : a.piece.maximum ≡ x.size a.text
  pub from_one : 0 < a.piece.sequence
  pub within : a.piece.sequence ≤ x.size a.text
  pub units : a.piece.units ≡ x.units a.text a.piece.sequence

abbrev pub AllOf : Texts → List Arrival → Type 0
AllOf x [] = Unit {0}
AllOf x (a ∷ past) = IsOf x a × AllOf x past

-- This piece of the text has arrived.
abbrev pub has_piece : List Arrival → ℕ → ℕ → Bool
has_piece [] t n = false
has_piece (a ∷ past) t n = (a.text == t && a.piece.sequence == n) || has_piece past t n

-- Each piece of the text from the first to this one has arrived.
abbrev pub has_pieces : List Arrival → ℕ → ℕ → Bool
has_pieces past t zero = true
has_pieces past t (suc n) = has_piece past t (suc n) && has_pieces past t n

-- The whole text has arrived.
abbrev pub is_done : (ℕ → ℕ) → List Arrival → ℕ → Bool
is_done size past t = has_pieces past t (size t)

-- The texts that have arrived whole, each at the arrival that completes it, so that the one that
-- was completed last is first.
abbrev pub completed : (ℕ → ℕ) → List Arrival → List ℕ
completed size [] = []
completed size (a ∷ past) =
    if is_done size past a.text then completed size past
    else if is_done size (a ∷ past) a.text then a.text ∷ completed size past
    else completed size past

-- Of the second list, the pieces of texts that the first list does not complete, each at its first
-- arrival.
abbrev pub open_pieces : (ℕ → ℕ) → List Arrival → List Arrival → List Piece
open_pieces size all [] = []
open_pieces size all (a ∷ past) =
    if has_piece past a.text a.piece.sequence || is_done size all a.text
    then open_pieces size all past
    else a.piece ∷ open_pieces size all past

-- Some piece of the text has arrived.
abbrev pub has_text : List Arrival → ℕ → Bool
has_text [] t = false
has_text (a ∷ past) t = a.text == t || has_text past t

-- Of the second list, the texts that the first list does not complete, each once.
abbrev pub open_texts : (ℕ → ℕ) → List Arrival → List Arrival → List ℕ
open_texts size all [] = []
open_texts size all (a ∷ past) =
    if has_text past a.text || is_done size all a.text
    then open_texts size all past
    else a.text ∷ open_texts size all past

-- No two open texts have one key.
abbrev pub OpenApart : (ℕ → Key) → (ℕ → ℕ) → List Arrival → Type 0
OpenApart key size past =
    (t u : ℕ) → has_text past t ≡ true → has_text past u ≡ true → is_done size past t ≡ false
    → is_done size past u ≡ false
    → key t ≡ key u → t ≡ u

-- Of the second list, the arrivals that still count: those of texts that the first list does not
-- complete and whose set was dropped no longer do.
abbrev pub remaining : (ℕ → ℕ) → (Key → Bool) → List Arrival → List Arrival → List Arrival
remaining size old all [] = []
remaining size old all (a ∷ past) =
    if not (is_done size all a.text) && old a.piece.key
    then remaining size old all past
    else a ∷ remaining size old all past

abbrev pub is_listed : List ℕ → ℕ → Bool
is_listed [] t = false
is_listed (u ∷ us) t = u == t || is_listed us t

abbrev pub units_of : Texts → ℕ → ℕ → List Units
units_of x t zero = []
units_of x t (suc n) = units_of x t n ++ x.units t (suc n) ∷ []

-- The units of the pieces of a text, in order.
abbrev pub whole_text : Texts → ℕ → List Units
whole_text x t = units_of x t (x.size t)
