-- The first event of a run after which `accepted` need not mean accepted, and the condition that it
-- breaks.
use Rattle.std.specs.Prelude.{◌≡◌, ℕ, suc, min, ◌^◌, ◌-◌, List, ◌∷◌, ◌++◌, length, Option, Some, None}
use Rattle.sms_world.specs.declared.doubt.Doubt.{Doubt}
use Rattle.sms_world.specs.declared.doubt.Ground.{Ground}
use Rattle.sms_world.specs.declared.doubt.Ground.TheVariants.{AnswerToAnother, ReferenceUsedAgain, Injected}
use Rattle.sms_world.specs.Accepted.{IsHonestAt}
use Rattle.sms_world.specs.Accepted.Answers.{AnswersAnswerWhatTheyName}
use Rattle.sms_world.specs.Accepted.References.{ReferencesAreNotUsedAgain}
use Rattle.sms_world.specs.Breaches.{Brings}
use Rattle.sms_world.specs.Machine.{Machine}
use Rattle.sms_world.specs.Machine.Event.{Event}
use Rattle.sms_world.specs.Machine.Step.{RunWith}
use Rattle.sms_world.specs.Orderly.Injections.{NothingIsInjected}
use Rattle.sms_world.specs.Told.{Told}

-- At every phone answers and rejections are of what they seem to be of, and nothing is injected.
abbrev pub IsHonest : Machine → Event → Type 0
IsHonest m event = (phone : ℕ) → IsHonestAt phone m event

-- a run in which each event is so
abbrev pub HonestRun : Machine → List (Event × Told) → Machine → Type 0
HonestRun first past last = RunWith IsHonest first past last

-- The event does not meet the condition, at this phone; or where it brings this segment of a text of
-- its phone.
abbrev pub Shakes : Ground → Machine → Event → Type 0
Shakes (AnswerToAnother phone) m event = AnswersAnswerWhatTheyName phone m event → ⊥
Shakes (ReferenceUsedAgain x) m event =
    (ReferencesAreNotUsedAgain x.phone m event → ⊥) × Brings m event x
Shakes Injected m event = NothingIsInjected event → ⊥

-- This event is the first that does not meet a condition, and it does not meet this one. (Events are
-- counted from 1, and no further than a number of 64 bits goes.)
pub record FirstDoubt (first : Machine) (past : List (Event × Told)) (d : Doubt) : Type 0 where
  pub later : List (Event × Told)
  pub event : Event
  pub told : Told
  pub earlier : List (Event × Told)
  pub parts : past ≡ later ++ (event, told) ∷ earlier
  pub before : Machine
  pub honest : HonestRun first earlier before
  pub shakes : Shakes d.why before event
  pub number : d.event ≡ min (suc (length earlier)) (2 ^ 64 - 1)

-- So far the run is honest at every phone; or this is its first doubt, and it is not.
abbrev pub IsMeant : Machine → List (Event × Told) → Machine → Option Doubt → Type 0
IsMeant first past m None = HonestRun first past m
IsMeant first past m (Some d) = FirstDoubt first past d × (HonestRun first past m → ⊥)
