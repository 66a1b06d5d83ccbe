-- What the centre drops, as it is seen at a glance, before anything is asked of memory.
use Rattle.std.specs.Prelude.{◌≡◌, ℕ, ◌≤◌, List, Option, Ok}
use Rattle.sms_field.specs.Address.Value.{AddressValue}
use Rattle.sms_message.specs.Message.{Origin}
use Rattle.sms_message.specs.Message.Reading.{ReadsAs}
use Rattle.sms_message.specs.declared.message.Message.{Message}
use Rattle.sms_message.specs.declared.outcome.Outcome.{Outcome}
use Rattle.sms_centre.specs.Centre.{centre_receives}
use Rattle.sms_centre.specs.Centre.State.{CentreState}
use Rattle.sms_centre.specs.Centre.Value.{CentreValue}
use Rattle.sms_centre.specs.Centre.Standing.{StandsFor}

-- From each state that the value stands for, what comes is answered and not dropped.
abbrev pub IsAnswered : ℕ → ℕ → List ℕ → CentreValue → Type 0
IsAnswered now phone octets old =
    (limit : ℕ) (phones : List AddressValue) (clock : ℕ) (c : CentreState) (message : Message)
    (origin : Option Origin) → clock ≤ now → StandsFor limit phones clock old c
    → ReadsAs octets message
    → (outcome : Outcome)
    × ((centre_receives limit phones c now phone message origin).answer ≡ Ok outcome)
