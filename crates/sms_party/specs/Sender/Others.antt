-- What one phone does leaves the sender of another as it is.
use Rattle.std.specs.Prelude.{◌≢◌, ℕ, List}
use Rattle.sms_field.specs.Address.Value.{AddressValue}
use Rattle.sms_join.specs.declared.units.Units.{Units}
use Rattle.sms_message.specs.declared.message.Message.{Message}
use Rattle.sms_party.specs.Sender.Texts.{SenderState}
use Rattle.sms_party.specs.Sender.Calls.{composes, times_out}
use Rattle.sms_party.specs.Sender.Answers.{sender_takes}
use Rattle.sms_party.specs.Sender.Value.{SenderValue}
use Rattle.sms_party.specs.Sender.Stands.{SenderStands}

-- A value that stands for a phone's part goes on standing for it when another phone types, times
-- out, or takes a message.
abbrev pub OthersLeaveSender : Type 0
OthersLeaveSender =
    (phone other : ℕ) (v : SenderValue) (x : SenderState) → phone ≢ other → SenderStands phone v x
    → ((target : AddressValue) (characters : List ℕ) (pieces : List Units)
    → SenderStands phone v (composes x other target characters pieces).after)
    × SenderStands phone v (times_out x other).after
    × ((message : Message) → SenderStands phone v (sender_takes x other message).after)
