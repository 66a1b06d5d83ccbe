-- A key whose finishing was forgotten by its age joins anew. Lists have the newest entry first.
use Rattle.std.specs.Prelude.{◌≡◌, ℕ, true, List, [], ◌∷◌, ◌++◌, map}
use Rattle.sms_join.specs.declared.key.Key.{Key}
use Rattle.sms_join.specs.declared.units.Units.{Units}
use Rattle.sms_join.specs.Piece.{Piece}
use Rattle.sms_join.specs.Joiner.Acts.{Act, Brings, Ages}
use Rattle.sms_join.specs.Gateway.Finishings.{is_forgotten}
use Rattle.sms_join.specs.Gateway.Value.{LimitsValue}
use Rattle.sms_once.specs.Run.{Held, IsFinishedAt, finishing_by, run}
use Rattle.sms_once.specs.Once.{ComeAllInTime, IsNew, finishes}
use Rattle.sms_once.specs.Sound.{IsSound}

-- After any list of offers and agings, an aging that forgets the finishing of a key leaves the key
-- new.
abbrev pub KeysJoinAnew : Type 0
KeysJoinAnew =
    (limits : LimitsValue) (h : Held) (acts : List (Act Piece)) (k : Key) (m now : ℕ)
    → IsSound h
    → IsFinishedAt (run limits h acts) k m
    → is_forgotten limits.remember_for now m ≡ true
    → IsNew (run limits h (Ages now ∷ acts)).holds k

-- ---- messages under one key, each of which was forgotten before the next

-- A message that finished and was forgotten.
pub record Forgotten : Type 0 where
  pub pieces : List Units
  -- what came before its last missing piece
  pub before : List (Act Piece)
  pub last : Piece
  -- what came while its key was remembered
  pub after : List (Act Piece)
  -- the moment of the aging that forgot it
  pub forgotten_at : ℕ

-- All that came, with those agings.
abbrev pub acts_of : List Forgotten → List (Act Piece)
acts_of [] = []
acts_of (m ∷ ms) = (Ages m.forgotten_at ∷ m.after ++ Brings m.last ∷ m.before) ++ acts_of ms

pub record IsForgotten (limits : LimitsValue) (h : Held) (k : Key) (m : Forgotten) : Type 0 where
  pub comes : ComeAllInTime limits h k m.pieces m.after m.last m.before
  pub late : is_forgotten limits.remember_for m.forgotten_at
      (finishing_by (run limits h m.before) m.last)
      ≡ true

abbrev pub AreForgotten : LimitsValue → Held → Key → List Forgotten → Type 0
AreForgotten limits h k [] = Unit {0}
AreForgotten limits h k (m ∷ ms) =
    IsForgotten limits (run limits h (acts_of ms)) k m × AreForgotten limits h k ms

-- The key has finished just once with each message, in turn, and is new; and so it is with one more
-- that is not forgotten yet.
pub record AreFinishedInTurn (limits : LimitsValue) (h : Held) (k : Key)
    (ms : List Forgotten) : Type 0 where
  pub is_new : IsNew (run limits h (acts_of ms)).holds k
  pub each_once : finishes limits h k (acts_of ms) ≡ map (λ (m : Forgotten). m.pieces) ms
  pub one_more : (pieces : List Units) (after : List (Act Piece)) (p : Piece)
      (before : List (Act Piece))
      → ComeAllInTime limits (run limits h (acts_of ms)) k pieces after p before
      → finishes limits h k ((after ++ Brings p ∷ before) ++ acts_of ms)
      ≡ pieces ∷ map (λ (m : Forgotten). m.pieces) ms

-- So it is with any number of messages.
abbrev pub FinishInTurn : Type 0
FinishInTurn =
    (limits : LimitsValue) (h : Held) (k : Key) (ms : List Forgotten)
    → IsNew h.holds k → AreForgotten limits h k ms → AreFinishedInTurn limits h k ms
