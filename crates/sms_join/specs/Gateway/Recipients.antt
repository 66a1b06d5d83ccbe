-- Recipients behind one joiner do not meet: each is answered by what is kept and remembered of it
-- alone, and while no limit is reached as by a joiner of its own. Lists have the newest entry
-- first.
use Rattle.std.specs.Prelude.{◌≡◌, ◌≢◌, ℕ, ◌<◌, true, false, if◌then◌else◌, List, [], ◌∷◌, length, Option}
use Rattle.std.specs.List.{filter}
use Rattle.sms_field.specs.Address.Value.{AddressValue}
use Rattle.sms_join.specs.Key.{is_for}
use Rattle.sms_join.specs.Piece.{Piece}
use Rattle.sms_join.specs.Joiner.{Joiner, TooManyOpen}
use Rattle.sms_join.specs.Joiner.Acts.{Act, Brings, Ages}
use Rattle.sms_join.specs.Joiner.Aging.{aged_after}
use Rattle.sms_join.specs.Gateway.Value.{LimitsValue}
use Rattle.sms_join.specs.Gateway.Answers.{gateway_answer, gateway_offered, gateway_holds}

-- What is kept and remembered of the recipient, or of none.
abbrev pub part : Option AddressValue → Joiner → Joiner
part r j =
    record {
      kept = filter (λ p. is_for r p.key) j.kept;
      finished = filter (is_for r) j.finished;
    }

-- ---- one offer

-- A piece of the recipient is answered as by the recipient's part alone, which then keeps what the
-- recipient has; and so are keys remembered, while there is room for one more.
pub record IsOfItsPart (limits : LimitsValue) (j : Joiner) (p : Piece)
    (r : Option AddressValue) : Type 0 where
  pub answer : gateway_answer limits j p ≡ gateway_answer limits (part r j) p
  pub kept : (part r (gateway_offered limits j p)).kept
      ≡ (gateway_offered limits (part r j) p).kept
  pub holds : length j.finished < limits.remembered
      → part r (gateway_offered limits j p) ≡ gateway_offered limits (part r j) p

-- So is each piece that is not turned away since too many sets are open.
abbrev pub AnswersEach : Type 0
AnswersEach =
    (limits : LimitsValue) (j : Joiner) (p : Piece) (r : Option AddressValue)
    → is_for r p.key ≡ true → gateway_answer limits j p ≢ TooManyOpen → IsOfItsPart limits j p r

-- Of another recipient a piece leaves all sets as they were, and all keys, while there is room for
-- one more.
pub record IsLeft (limits : LimitsValue) (j : Joiner) (p : Piece)
    (r : Option AddressValue) : Type 0 where
  pub kept : (part r (gateway_offered limits j p)).kept ≡ (part r j).kept
  pub holds : length j.finished < limits.remembered
      → part r (gateway_offered limits j p) ≡ part r j

abbrev pub LeavesOthers : Type 0
LeavesOthers =
    (limits : LimitsValue) (j : Joiner) (p : Piece) (r : Option AddressValue)
    → is_for r p.key ≡ false → IsLeft limits j p r

-- An aging drops of each part what it would drop of it alone.
abbrev pub AgesEach : Type 0
AgesEach =
    (longest now : ℕ) (j : Joiner) (r : Option AddressValue)
    → part r (aged_after longest now j) ≡ aged_after longest now (part r j)

-- ---- a list of offers and agings

-- The piece is not turned away, and there is room for one more key.
pub record IsUnderLimits (limits : LimitsValue) (j : Joiner) (p : Piece) : Type 0 where
  pub taken : gateway_answer limits j p ≢ TooManyOpen
  pub keys : length j.finished < limits.remembered

-- No offer reaches a limit.
abbrev pub AreUnderLimits : LimitsValue → List (Act Piece) → Type 0
AreUnderLimits limits [] = Unit {0}
AreUnderLimits limits (Brings p ∷ acts) =
    IsUnderLimits limits (gateway_holds limits acts) p × AreUnderLimits limits acts
AreUnderLimits limits (Ages now ∷ acts) = AreUnderLimits limits acts

-- The offers of the recipient, and all agings.
abbrev pub acts_for : Option AddressValue → List (Act Piece) → List (Act Piece)
acts_for r [] = []
acts_for r (Brings p ∷ acts) =
    if is_for r p.key then Brings p ∷ acts_for r acts else acts_for r acts
acts_for r (Ages now ∷ acts) = Ages now ∷ acts_for r acts

-- While no limit is reached, the recipient's part is what one holds to which the offers of this
-- recipient alone were brought.
abbrev pub HoldsEach : Type 0
HoldsEach =
    (limits : LimitsValue) (acts : List (Act Piece)) (r : Option AddressValue)
    → AreUnderLimits limits acts
    → part r (gateway_holds limits acts) ≡ gateway_holds limits (acts_for r acts)
