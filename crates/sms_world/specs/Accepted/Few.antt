-- Up to 1,792 puttings out, answers answer what they name by themselves.
use Rattle.std.specs.Prelude.{ℕ, ◌≤◌, List}
use Rattle.sms_field.specs.Address.Value.{AddressValue}
use Rattle.sms_world.specs.Told.{Told}
use Rattle.sms_script.specs.declared.script.limits.Limits.{Limits}
use Rattle.sms_world.specs.Machine.{Machine, start}
use Rattle.sms_world.specs.Machine.Event.{Event}
use Rattle.sms_world.specs.Machine.Step.{RunWith}
use Rattle.sms_world.specs.Orderly.Injections.{NothingIsInjected}
use Rattle.sms_world.specs.Accepted.{IsHonestAt}
use Rattle.sms_world.specs.Accepted.Answers.{AnswersAnswerWhatTheyName}
use Rattle.sms_world.specs.Accepted.References.{ReferencesAreNotUsedAgain}

-- Transaction values count modulo 7 and RP references modulo 256: the two together come again after
-- 1,792 puttings out. Where nothing is injected and a phone's sender has put out no more, each event
-- meets the condition at this phone, however often the others put out.
abbrev pub FewPuttingsOut : Type 0
FewPuttingsOut =
    (limits : Limits) (phones : List AddressValue) (past : List (Event × Told)) (m : Machine)
    → RunWith (λ old event. NothingIsInjected event) (start limits phones) past m
    → (event : Event) (phone : ℕ) → (m.senders.sender phone).outs ≤ 1792
    → AnswersAnswerWhatTheyName phone m event

-- Only the other two conditions are left.
pub record IsPlainAt (phone : ℕ) (m : Machine) (event : Event) : Type 0 where
  pub references : ReferencesAreNotUsedAgain phone m event
  pub plain : NothingIsInjected event

-- They are enough in a run at whose end the phone's sender has put out no more than that.
abbrev pub FewAreHonest : Type 0
FewAreHonest =
    (limits : Limits) (phones : List AddressValue) (past : List (Event × Told)) (m : Machine)
    → (phone : ℕ) → RunWith (IsPlainAt phone) (start limits phones) past m
    → (m.senders.sender phone).outs ≤ 1792
    → RunWith (IsHonestAt phone) (start limits phones) past m
