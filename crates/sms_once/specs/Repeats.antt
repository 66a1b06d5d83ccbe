-- A key that has finished is remembered for as long as the limits say, by number and by age: what
-- comes under it till then is a repeat. Lists have the newest entry first. An offer for which
-- memory runs out leaves the joiner as it was, and is none here.
use Rattle.std.specs.Prelude.{◌≡◌, ℕ, ◌+◌, ◌<◌, true, false, ◌||◌, if◌then◌else◌, List, [], ◌∷◌, length, Option}
use Rattle.sms_join.specs.declared.key.Key.{Key}
use Rattle.sms_join.specs.declared.units.Units.{Units}
use Rattle.sms_join.specs.Key.{same_key}
use Rattle.sms_join.specs.Piece.{Piece}
use Rattle.sms_join.specs.Joiner.{Repeat, Finished}
use Rattle.sms_join.specs.Joiner.Acts.{Act, Brings, Ages}
use Rattle.sms_join.specs.Arrivals.Pieces.{finished_now}
use Rattle.sms_join.specs.Gateway.Answers.{gateway_answer, is_passed}
use Rattle.sms_join.specs.Gateway.Finishings.{is_forgotten}
use Rattle.sms_join.specs.Gateway.Value.{LimitsValue}
use Rattle.sms_once.specs.Run.{Held, finishing_by, held_after, run}

-- How many offers under other keys finished, and had their key remembered.
abbrev pub others_finished : LimitsValue → Held → Key → List (Act Piece) → ℕ
others_finished limits h k [] = 0
others_finished limits h k (Brings p ∷ acts) =
    if same_key p.key k || is_passed limits.alone p.key
    then others_finished limits h k acts
    else length (finished_now (gateway_answer limits (run limits h acts).holds p))
    + others_finished limits h k acts
others_finished limits h k (Ages now ∷ acts) = others_finished limits h k acts

-- No aging comes so late that it forgets what finished at this moment.
abbrev pub NoneForgets : Option ℕ → ℕ → List (Act Piece) → Type 0
NoneForgets longest m [] = Unit {0}
NoneForgets longest m (Brings p ∷ acts) = NoneForgets longest m acts
NoneForgets longest m (Ages now ∷ acts) =
    (is_forgotten longest now m ≡ false) × NoneForgets longest m acts

-- After this piece, which finishes its key, fewer other keys finish than can be remembered, and no
-- aging forgets the finishing.
pub record StaysRemembered (limits : LimitsValue) (h : Held) (p : Piece)
    (after : List (Act Piece)) : Type 0 where
  pub few : others_finished limits (held_after limits h (Brings p)) p.key after
      < limits.remembered
  pub in_time : NoneForgets limits.remember_for (finishing_by h p) after

-- Each offer under the key is answered by a repeat.
abbrev pub AreRepeats : LimitsValue → Held → Key → List (Act Piece) → Type 0
AreRepeats limits h k [] = Unit {0}
AreRepeats limits h k (Brings p ∷ acts) =
    (same_key p.key k ≡ true → gateway_answer limits (run limits h acts).holds p ≡ Repeat)
    × AreRepeats limits h k acts
AreRepeats limits h k (Ages now ∷ acts) = AreRepeats limits h k acts

-- After a piece that finishes its key, and is not passed, each later one under the key is a repeat
-- as long as the key stays remembered, whatever comes.
abbrev pub RepeatsInTime : Type 0
RepeatsInTime =
    (limits : LimitsValue) (h : Held) (p : Piece) (units : List Units) (after : List (Act Piece))
    → is_passed limits.alone p.key ≡ false
    → gateway_answer limits h.holds p ≡ Finished units
    → StaysRemembered limits h p after
    → AreRepeats limits (held_after limits h (Brings p)) p.key after
