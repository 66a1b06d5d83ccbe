-- Answers answer what they name.
use Rattle.std.specs.Prelude.{◌≡◌, ℕ, suc, Option, Some}
use Rattle.sms_message.specs.Message.{tag_of}
use Rattle.sms_world.specs.Machine.{Machine}
use Rattle.sms_world.specs.Machine.Event.{Event}
use Rattle.sms_world.specs.Orderly.Brought.{BringsAnswer}

-- An RP-ACK or RP-ERROR that comes to this phone with the transaction value and the RP reference of
-- the last submission that it put out answers that putting out, and no earlier one with the same
-- two numbers.
abbrev pub AnswersAnswerWhatTheyName : ℕ → Machine → Event → Type 0
AnswersAnswerWhatTheyName phone m event =
    (last : ℕ) (putting : Option ℕ) → (m.senders.sender phone).outs ≡ suc last
    → BringsAnswer m event phone (tag_of last) putting → putting ≡ Some last
