-- How much a sender or a receiver puts out at a call, and where it goes.
use Rattle.std.specs.Prelude.{◌≡◌, ℕ, ◌≤◌, List, length, Option}
use Rattle.std.specs.List.{AllByRecursion}
use Rattle.sms_field.specs.Address.Value.{AddressValue}
use Rattle.sms_join.specs.declared.units.Units.{Units}
use Rattle.sms_message.specs.declared.message.Message.{Message}
use Rattle.sms_message.specs.Message.{Origin}
use Rattle.sms_message.specs.Few.{PutsFew}
use Rattle.sms_party.specs.Sent.{Place, Centre, Sent}
use Rattle.sms_party.specs.Receiver.{receiver_receives}
use Rattle.sms_party.specs.Receiver.State.{ReceiverLimits, ReceiverState}
use Rattle.sms_party.specs.Sender.Texts.{SenderState}
use Rattle.sms_party.specs.Sender.Calls.{composes, times_out}
use Rattle.sms_party.specs.Sender.Answers.{sender_takes}

-- two packets at most, which all go there
pub record AreFewTo (place : Place) (put : List Sent) : Type 0 where
  pub two : length put ≤ 2
  pub there : AllByRecursion (λ x. x.to ≡ place) put

-- Two packets at most are put out: by a sender, to the centre; and by a receiver.
pub record FewArePutOut : Type 0 where
  pub when_typed : (x : SenderState) (phone : ℕ) (target : AddressValue) (characters : List ℕ)
      (pieces : List Units)
      → AreFewTo (Centre phone) (composes x phone target characters pieces).put
  pub when_late : (x : SenderState) (phone : ℕ) → AreFewTo (Centre phone) (times_out x phone).put
  pub when_heard : (x : SenderState) (phone : ℕ) (message : Message)
      → AreFewTo (Centre phone) (sender_takes x phone message).put
  pub by_receiver : (limits : ReceiverLimits) (s : ReceiverState) (now : ℕ) (message : Message)
      (origin : Option Origin)
      → PutsFew (receiver_receives limits s now message origin)
