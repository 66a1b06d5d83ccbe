-- What is promised of one run: these events came, each with its answer, the newest first, and led
-- from the first state of these limits and phones to m, for which the world stands.
use Rattle.std.specs.Prelude.{◌≡◌, ℕ, ◌<◌, List, [], ◌∷◌, length}
use Rattle.sms_field.specs.Address.Value.{AddressValue}
use Rattle.sms_party.specs.Sent.{Sent}
use Rattle.sms_script.specs.declared.script.limits.Limits.{Limits}
use Rattle.sms_world.specs.Told.{Told}
use Rattle.sms_world.specs.Accepted.{IsHonestAt}
use Rattle.sms_world.specs.Headline.Refused.{IsReceived}
use Rattle.sms_world.specs.Machine.{Machine, start}
use Rattle.sms_world.specs.Machine.Event.{Event}
use Rattle.sms_world.specs.Machine.Step.{RunWith, Step}
use Rattle.sms_world.specs.Orderly.{OrderlyRun, SubmissionsAreOrderly}
use Rattle.sms_world.specs.World.Claims.{StoreIsWhole, AcceptedOnce, ShownWereAccepted}
use Rattle.sms_world.specs.World.Standing.{StandsFor}
use Rattle.sms_world.specs.World.Value.{WorldValue}

-- a run in which each delivery is of a segment of a text that was typed to the phone, and is taken;
-- or it is refused where a stated table is full; or memory runs out
abbrev pub ReceivingRun : Machine → List (Event × Told) → Machine → Type 0
ReceivingRun first [] last = first ≡ last
ReceivingRun first (e ∷ past) last =
    (old : Machine) × ReceivingRun first past old
    × ((put : List Sent) × Step old e.0 e.1 put last × IsReceived old e.0 e.1 put last)

-- The headline: each phone's store is, in order of completion, exactly the texts typed to it of
-- which every segment was taken, each once, whole and as typed; and an arriving segment is refused
-- only where a stated table was full or memory ran out.
pub record Headline (limits : Limits) (phones : List AddressValue) (past : List (Event × Told))
    (m : Machine) (world : WorldValue) : Type 0 where
  pub stores : (phone : ℕ) → phone < length world.parties.phones → StoreIsWhole world m phone
  pub deliveries : ReceivingRun (start limits phones) past m

-- Where the run is orderly, the headline; where repeats ask for rejection in time and nothing is
-- injected, no segment was accepted twice; where answers to a phone and rejections of what it puts
-- out are of what they seem to be of and nothing is injected, what is shown there as accepted was
-- accepted.
pub record RunPromises (limits : Limits) (phones : List AddressValue) (past : List (Event × Told))
    (m : Machine) (world : WorldValue) : Type 0 where
  pub headline : OrderlyRun (start limits phones) past m → Headline limits phones past m world
  pub once : RunWith SubmissionsAreOrderly (start limits phones) past m → AcceptedOnce m
  pub accepted : (phone : ℕ) → RunWith (IsHonestAt phone) (start limits phones) past m
      → ShownWereAccepted world m phone

-- so it is of every state to which these events, with these answers, lead
abbrev pub Promised : Limits → List AddressValue → List (Event × Told) → WorldValue → Type 0
Promised limits phones past world =
    (m : Machine) → StandsFor world m → RunPromises limits phones past m world

-- so it is whatever run led to the world
abbrev pub KeepsPromises : WorldValue → Type 0
KeepsPromises world =
    (limits : Limits) (phones : List AddressValue) (past : List (Event × Told))
    → Promised limits phones past world
