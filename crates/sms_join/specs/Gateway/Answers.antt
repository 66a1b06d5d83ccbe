-- What a joiner for many recipients answers, and what it holds then: what a joiner does, but for
-- messages in one piece where these are passed.
use Rattle.std.specs.Prelude.{ℕ, Bool, true, false, ◌||◌, if◌then◌else◌, List, [], ◌∷◌}
use Rattle.sms_join.specs.declared.gateway_limits.Alone.{Alone}
use Rattle.sms_join.specs.declared.gateway_limits.Alone.TheVariants.{Remembered, Passed}
use Rattle.sms_join.specs.declared.key.Key.{Key}
use Rattle.sms_join.specs.declared.key.Key.TheVariants.{Single, Segmented, SingleTo, SegmentedTo}
use Rattle.sms_join.specs.Piece.{Piece}
use Rattle.sms_join.specs.Joiner.{Joiner, Answer, Finished, new_joiner, answer, offered}
use Rattle.sms_join.specs.Joiner.Acts.{Act, Brings, Ages}
use Rattle.sms_join.specs.Joiner.Aging.{aged_after}
use Rattle.sms_join.specs.Joiner.Finishing.{would_finish}
use Rattle.sms_join.specs.Gateway.Finishings.{finishings_after, keys_at}
use Rattle.sms_join.specs.Gateway.Value.{LimitsValue, GatewayValue}

-- The message is in one piece, and has no place among segments.
abbrev pub is_alone : Key → Bool
is_alone (Single origin stamp) = true
is_alone (SingleTo recipient origin stamp) = true
is_alone (Segmented origin width reference maximum) = false
is_alone (SegmentedTo recipient origin width reference maximum) = false

-- It is passed: it finishes, and nothing is kept or remembered of it.
abbrev pub is_passed : Alone → Key → Bool
is_passed Remembered k = false
is_passed Passed k = is_alone k

abbrev pub gateway_answer : LimitsValue → Joiner → Piece → Answer
gateway_answer limits j p =
    if is_passed limits.alone p.key then Finished (p.units ∷ []) else answer limits.open_max j p

abbrev pub gateway_offered : LimitsValue → Joiner → Piece → Joiner
gateway_offered limits j p =
    if is_passed limits.alone p.key then j else offered limits.open_max limits.remembered j p

-- The moments of the finishings after it.
abbrev pub gateway_finishings : LimitsValue → Joiner → List ℕ → Piece → List ℕ
gateway_finishings limits j ms p =
    if is_passed limits.alone p.key then ms
    else finishings_after limits.remembered ms p.moment (answer limits.open_max j p)

-- Sets that have been open for as long as the limits say are dropped, and keys are forgotten that
-- finished as long ago as these say.
abbrev pub gateway_aged : GatewayValue → ℕ → Joiner
gateway_aged g now =
    record {
      kept = (aged_after g.limits.open_for now g.holds).kept;
      finished = keys_at g.limits.remember_for now g.holds.finished g.finishings;
    }

-- It is passed, or is the last that its set lacks.
abbrev pub gateway_would_finish : LimitsValue → Joiner → Piece → Bool
gateway_would_finish limits j p = is_passed limits.alone p.key || would_finish j p

-- What one holds that was new at first, after pieces that were offered and agings, of which the
-- newest is the first, where no key is forgotten by its age.
abbrev pub gateway_holds : LimitsValue → List (Act Piece) → Joiner
gateway_holds limits [] = new_joiner
gateway_holds limits (Brings p ∷ acts) = gateway_offered limits (gateway_holds limits acts) p
gateway_holds limits (Ages now ∷ acts) = aged_after limits.open_for now (gateway_holds limits acts)
