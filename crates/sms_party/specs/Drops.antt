-- What a phone drops puts nothing out: where its answer is an error, there is no message.
use Rattle.std.specs.Prelude.{◌≡◌, ℕ, List, [], Option, Err}
use Rattle.sms_field.specs.Address.Value.{AddressValue}
use Rattle.sms_join.specs.declared.units.Units.{Units}
use Rattle.sms_message.specs.Message.{Origin}
use Rattle.sms_message.specs.Drops.{DoesOrDrops}
use Rattle.sms_party.specs.Sent.{Sends}
use Rattle.sms_party.specs.Sender.Texts.{SenderState}
use Rattle.sms_party.specs.Sender.Calls as calls
use Rattle.sms_party.specs.Sender.Answers as answers
use Rattle.sms_party.specs.Receiver as receiver
use Rattle.sms_party.specs.Receiver.State.{ReceiverLimits, ReceiverState}
use Rattle.sms_message.specs.declared.message.Message.{Message}
use Rattle.sms_message.specs.declared.message.Relay.{Relay}
use Rattle.sms_message.specs.declared.message.Tag.{Tag}
use Rattle.sms_message.specs.declared.outcome.Dropped.{Dropped}

-- of a sender
abbrev pub SendsOrDrops : {S : Type 0} → Sends S → Type 0
SendsOrDrops d = (why : Dropped) → d.answer ≡ Err why → d.put ≡ []

pub record DropsPutNothingOut : Type 0 where
  pub composes : (x : SenderState) (phone : ℕ) (target : AddressValue) (characters : List ℕ)
      (pieces : List Units)
      → SendsOrDrops (calls.composes x phone target characters pieces)
  pub times_out : (x : SenderState) (phone : ℕ) → SendsOrDrops (calls.times_out x phone)
  pub sender_takes : (x : SenderState) (phone : ℕ) (message : Message)
      → SendsOrDrops (answers.sender_takes x phone message)
  pub sender_receives : (x : SenderState) (phone : ℕ) (tag : Tag) (relay : Relay)
      → SendsOrDrops (answers.sender_receives x phone tag relay)
  pub receiver_receives : (limits : ReceiverLimits) (s : ReceiverState) (now : ℕ)
      (message : Message) (origin : Option Origin)
      → DoesOrDrops (receiver.receiver_receives limits s now message origin)
  pub receiver_opened : (limits : ReceiverLimits) (s : ReceiverState) (now : ℕ) (tag : Tag)
      (relay : Relay) (origin : Option Origin)
      → DoesOrDrops (receiver.receiver_opened limits s now tag relay origin)
