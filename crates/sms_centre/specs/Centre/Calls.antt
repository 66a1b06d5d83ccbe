-- What it means that a call of the code is a step of the machine.
use Rattle.std.specs.Prelude.{◌≡◌, ℕ, ◌≤◌, List, Option, Result, Ok, Err}
use Rattle.sms_field.specs.Address.Value.{AddressValue}
use Rattle.sms_message.specs.Message.{Origin}
use Rattle.sms_message.specs.Message.Reading.{ReadsAs}
use Rattle.sms_message.specs.Does.{Does, Answered}
use Rattle.sms_centre.specs.Centre.{centre_receives}
use Rattle.sms_centre.specs.Centre.State.{CentreState}
use Rattle.sms_centre.specs.Centre.Pushes.{centre_pushes}
use Rattle.sms_centre.specs.Centre.Value.{CentreValue}
use Rattle.sms_centre.specs.Centre.Standing.{StandsFor}
use Rattle.sms_message.specs.declared.message.Message.{Message}
use Rattle.sms_message.specs.declared.outcome.Step.{Step}
use Rattle.sms_message.specs.declared.outcome.Dropped.{Dropped}
use Rattle.sms_message.specs.declared.outcome.Dropped.TheVariants as dropped
use Rattle.sms_message.specs.declared.outcome.Outcome.TheVariants.{Pushed}

-- In a state the centre did this at a moment: what is said of each party (Does), where the value
-- stands for the state.
abbrev pub CentreAnswers : ℕ → List AddressValue → ℕ → CentreState → Does CentreState
    → Result Step Dropped → CentreValue → Type 0
CentreAnswers limit phones now c d result v =
    Answered (λ after. StandsFor limit phones now v after) c d result

-- The new value stands at this moment for what the old one stood for before.
abbrev pub StandsLater : ℕ → CentreValue → CentreValue → Type 0
StandsLater now old new =
    (limit : ℕ) (phones : List AddressValue) (clock : ℕ) (c : CentreState) → clock ≤ now
    → StandsFor limit phones clock old c
    → StandsFor limit phones now new c

-- It stands for this state at every moment.
abbrev pub StandsAlways : ℕ → List AddressValue → CentreValue → CentreState → Type 0
StandsAlways limit phones v c = (clock : ℕ) → StandsFor limit phones clock v c

-- from each state that the old value stands for there is a step to a state that the new one stands
-- for
abbrev pub PushSteps : ℕ → ℕ → CentreValue → Result Step Dropped → CentreValue → Type 0
PushSteps now phone old result new =
    (limit : ℕ) (phones : List AddressValue) (clock : ℕ) (c : CentreState) → clock ≤ now
    → StandsFor limit phones clock old c
    → CentreAnswers limit phones now c (centre_pushes phones c now phone) result new

-- in each such state a message waits for the phone, so that there is one to put out
abbrev pub IsPushed : ℕ → ℕ → CentreValue → Type 0
IsPushed now phone old =
    (limit : ℕ) (phones : List AddressValue) (clock : ℕ) (c : CentreState) → clock ≤ now
    → StandsFor limit phones clock old c
    → (centre_pushes phones c now phone).answer ≡ Ok Pushed

-- Octets come from a phone: they are read as a message, and it does what the message makes it do,
-- whatever text the message is of. If memory runs out, it stands for the state that was.
abbrev pub ReceivesAs : ℕ → ℕ → List ℕ → CentreValue → Result Step Dropped → CentreValue → Type 0
ReceivesAs now phone octets old (Err dropped.Memory) new = StandsLater now old new
ReceivesAs now phone octets old result new =
    (message : Message) × ReadsAs octets message
    × ((limit : ℕ) (phones : List AddressValue) (clock : ℕ)
    (c : CentreState) (origin : Option Origin)
    → clock ≤ now → StandsFor limit phones clock old c
    → CentreAnswers limit phones now c
    (centre_receives limit phones c now phone message origin) result new)
