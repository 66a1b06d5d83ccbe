-- That keys are forgotten by their age changes no answer, as long as what comes again comes in
-- time. Lists have the newest entry first.
use Rattle.std.specs.Prelude.{◌≡◌, ℕ, true, List, [], ◌∷◌, None}
use Rattle.sms_join.specs.Piece.{Piece}
use Rattle.sms_join.specs.Joiner.{is_among}
use Rattle.sms_join.specs.Joiner.Acts.{Act, Brings, Ages}
use Rattle.sms_join.specs.Gateway.Answers.{gateway_answer, gateway_holds}
use Rattle.sms_join.specs.Gateway.Value.{LimitsValue}
use Rattle.sms_once.specs.Run.{IsFinishedAt, new_held, run}
use Rattle.sms_once.specs.Repeats.{NoneForgets}

-- The key of the piece is remembered, if it would be were none forgotten by its age.
abbrev pub ComesInTime : LimitsValue → List (Act Piece) → Piece → Type 0
ComesInTime limits acts p =
    is_among (gateway_holds limits acts).finished p.key ≡ true
    → is_among (run limits new_held acts).holds.finished p.key ≡ true

abbrev pub AreInTime : LimitsValue → List (Act Piece) → Type 0
AreInTime limits [] = Unit {0}
AreInTime limits (Brings p ∷ acts) = ComesInTime limits acts p × AreInTime limits acts
AreInTime limits (Ages now ∷ acts) = AreInTime limits acts

-- Where all do, the last piece is answered as if none were forgotten so.
abbrev pub AnswersInTime : Type 0
AnswersInTime =
    (limits : LimitsValue) (acts : List (Act Piece)) (p : Piece)
    → AreInTime limits (Brings p ∷ acts)
    → gateway_answer limits (run limits new_held acts).holds p
    ≡ gateway_answer limits (gateway_holds limits acts) p

-- Where none can be, the run holds what is held then.
abbrev pub RunsWithoutAge : Type 0
RunsWithoutAge =
    (limits : LimitsValue) (acts : List (Act Piece)) → limits.remember_for ≡ None
    → (run limits new_held acts).holds ≡ gateway_holds limits acts

-- ---- told by moments alone

-- The same limits, but that no key is forgotten by its age.
abbrev pub without_age : LimitsValue → LimitsValue
without_age limits = record limits { remember_for = None }

-- If its key would be remembered, no aging came so late that it forgets the finishing.
abbrev pub IsTimely : LimitsValue → List (Act Piece) → Piece → Type 0
IsTimely limits acts p =
    (m : ℕ) → IsFinishedAt (run (without_age limits) new_held acts) p.key m
    → NoneForgets limits.remember_for m acts

abbrev pub AreTimely : LimitsValue → List (Act Piece) → Type 0
AreTimely limits [] = Unit {0}
AreTimely limits (Brings p ∷ acts) = IsTimely limits acts p × AreTimely limits acts
AreTimely limits (Ages now ∷ acts) = AreTimely limits acts

-- Where no piece comes after such an aging, all come in time.
abbrev pub TimelyComeInTime : Type 0
TimelyComeInTime =
    (limits : LimitsValue) (acts : List (Act Piece)) → AreTimely limits acts
    → AreInTime limits acts
