-- What it means that a text is shown as accepted.
pub mod Answers
pub mod References
pub mod Few
pub mod Reject
use Rattle.std.specs.Prelude.{◌≡◌, ℕ, ◌<◌, ◌≤◌, true, List, Some}
use Rattle.std.specs.List.{Contains}
use Rattle.sms_field.specs.Address.Value.{AddressValue}
use Rattle.sms_centre.specs.Centre.State.{Acceptance}
use Rattle.sms_world.specs.Told.{Told}
use Rattle.sms_script.specs.declared.script.limits.Limits.{Limits}
use Rattle.sms_world.specs.Machine.{Machine, start}
use Rattle.sms_world.specs.Machine.Event.{Event}
use Rattle.sms_world.specs.Machine.Step.{RunWith}
use Rattle.sms_world.specs.Texts.{size_in}
use Rattle.sms_world.specs.Orderly.Injections.{NothingIsInjected}
use Rattle.sms_world.specs.Accepted.Answers.{AnswersAnswerWhatTheyName}
use Rattle.sms_world.specs.Accepted.References.{ReferencesAreNotUsedAgain}

-- Answers to this phone and rejections of what it puts out are of what they seem to be of, and
-- nothing is injected.
pub record IsHonestAt (phone : ℕ) (m : Machine) (event : Event) : Type 0 where
  pub answers : AnswersAnswerWhatTheyName phone m event
  pub references : ReferencesAreNotUsedAgain phone m event
  pub plain : NothingIsInjected event

-- After every run in which each event is so for one phone, whatever the others do: where a text has
-- ended at this phone as accepted, the centre has accepted each of its segments.
abbrev pub AcceptedIsAccepted : Type 0
AcceptedIsAccepted =
    (limits : Limits) (phones : List AddressValue) (past : List (Event × Told)) (m : Machine)
    → (phone : ℕ) → RunWith (IsHonestAt phone) (start limits phones) past m
    → (n : ℕ) → Contains (m.senders.sender phone).ended (n, true)
    → (s : ℕ) → 0 < s → s ≤ size_in m.senders.texts n
    → (a : Acceptance) × Contains m.centre.accepted a
    × (a.origin ≡ Some (record { text = n; segment = s }))
