-- No list of offers and agings leaves a key remembered twice, or one whose set is open, or without
-- its moment. Lists have the newest entry first.
use Rattle.std.specs.Prelude.{◌≡◌, List, length}
use Rattle.sms_join.specs.Piece.{Piece}
use Rattle.sms_join.specs.Joiner.Acts.{Act}
use Rattle.sms_join.specs.Gateway.Distinct.{AreDistinct}
use Rattle.sms_join.specs.Gateway.Finishings.{Fall}
use Rattle.sms_join.specs.Gateway.Value.{LimitsValue}
use Rattle.sms_once.specs.Run.{Held, new_held, run}

-- No key is remembered twice, and none of a set that is open; there are as many moments as keys,
-- and none is later than the one ahead of it.
pub record IsSound (h : Held) : Type 0 where
  pub distinct : AreDistinct h.holds
  pub as_many : length h.finishings ≡ length h.holds.finished
  pub fall : Fall h.finishings

-- So it is of a new one, and so it stays.
pub record RunsStaySound : Type 0 where
  pub new : IsSound new_held
  pub stays : (limits : LimitsValue) (h : Held) (acts : List (Act Piece))
      → IsSound h → IsSound (run limits h acts)
