-- A reader may pass this by: contracts of private functions, and proofs, alone cite it.
--
-- Events that come in order, as the code follows them: what it has noted stays right.
use Rattle.std.specs.Prelude.{◌≡◌, ℕ, List, ◌∷◌, None}
use Rattle.sms_field.specs.Address.Value.{AddressValue}
use Rattle.sms_script.specs.declared.script.limits.Limits.{Limits}
use Rattle.sms_world.specs.Breaches.{breach_at, Watches}
use Rattle.sms_world.specs.Ledger.{Ledger}
use Rattle.sms_world.specs.Machine.{Machine}
use Rattle.sms_world.specs.Machine.Event.{Event}
use Rattle.sms_world.specs.Told.{Told}
use Rattle.sms_world.specs.World.Standing.{StandsFor}
use Rattle.sms_world.specs.World.Value.{WorldValue}

-- Some orderly run has led to the world, and these are right notes of it.
pub record IsFollowed (world : WorldValue) (l : Ledger) : Type 0 where
  pub limits : Limits
  pub phones : List AddressValue
  pub past : List (Event × Told)
  pub last : Machine
  pub watches : Watches limits phones past last l None
  pub stands : StandsFor world last

-- by what is noted, the event comes in order
abbrev pub ComesInOrder : WorldValue → Ledger → Event → Type 0
ComesInOrder world l event = breach_at l world.limits.remembered world.clock event ≡ None

-- Whatever orderly run has led to the old world, this event with its answer makes it an orderly run
-- to the new one, and the new notes are right of it.
abbrev pub Follows : Event → WorldValue → Ledger → Told → WorldValue → Ledger → Type 0
Follows event old l told new k =
    (limits : Limits) (phones : List AddressValue) (past : List (Event × Told)) (m : Machine)
    → Watches limits phones past m l None → StandsFor old m
    → (n : Machine) × Watches limits phones ((event, told) ∷ past) n k None × StandsFor new n
