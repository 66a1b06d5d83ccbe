-- What the calls of a joiner for many recipients come to: it holds what the run says, whatever the
-- order in which it keeps its pieces. Lists have the newest entry first.
use Rattle.std.specs.Prelude.{◌≡◌, ℕ, List, [], ◌∷◌}
use Rattle.sms_join.specs.Piece.{Piece}
use Rattle.sms_join.specs.Joiner.{new_joiner}
use Rattle.sms_join.specs.Joiner.Acts.{Act, Brings, Ages}
use Rattle.sms_join.specs.Joiner.Same.{IsSame}
use Rattle.sms_join.specs.Gateway.Answers.{gateway_aged, gateway_answer, gateway_finishings, gateway_offered}
use Rattle.sms_join.specs.Gateway.Finishings.{finishings_at}
use Rattle.sms_join.specs.Gateway.Value.{GatewayValue}
use Rattle.sms_once.specs.Run.{Held, new_held, run}

-- What an offer leaves for which memory does not run out.
pub record IsOffered (old new : GatewayValue) (p : Piece) : Type 0 where
  pub holds : IsSame new.holds (gateway_offered old.limits old.holds p)
  pub finishings : new.finishings ≡ gateway_finishings old.limits old.holds old.finishings p
  pub limits : new.limits ≡ old.limits

-- What an aging leaves.
pub record IsAged (old new : GatewayValue) (now : ℕ) : Type 0 where
  pub holds : IsSame new.holds (gateway_aged old now)
  pub finishings : new.finishings ≡ finishings_at old.limits.remember_for now old.finishings
  pub limits : new.limits ≡ old.limits

abbrev pub IsStep : GatewayValue → GatewayValue → Act Piece → Type 0
IsStep old new (Brings p) = IsOffered old new p
IsStep old new (Ages now) = IsAged old new now

-- What these leave, one after another.
abbrev pub AreSteps : GatewayValue → GatewayValue → List (Act Piece) → Type 0
AreSteps old new [] = new ≡ old
AreSteps old new (act ∷ acts) =
    (last : GatewayValue) × AreSteps old last acts × IsStep last new act

-- It holds this, and the moments are these.
pub record Holds (g : GatewayValue) (h : Held) : Type 0 where
  pub holds : IsSame g.holds h.holds
  pub finishings : g.finishings ≡ h.finishings

-- After the steps it holds what the run says, and so answers each piece.
pub record IsAsRun (old new : GatewayValue) (h : Held) (acts : List (Act Piece)) : Type 0 where
  pub holds : Holds new (run old.limits h acts)
  pub answers : (p : Piece) → gateway_answer new.limits new.holds p
      ≡ gateway_answer old.limits (run old.limits h acts).holds p

pub record StepsFollowRun : Type 0 where
  pub begins : (g : GatewayValue) → g.holds ≡ new_joiner → g.finishings ≡ [] → Holds g new_held
  pub follows : (old new : GatewayValue) (h : Held) (acts : List (Act Piece))
      → Holds old h → AreSteps old new acts → IsAsRun old new h acts
