-- A phone: its sender takes what comes in the transactions that it has opened, its receiver the
-- rest.
use Rattle.std.specs.Prelude.{◌≡◌, ℕ, Bool, true, false, if◌then◌else◌, List, Result, Err}
use Rattle.sms_message.specs.declared.glance.Glance.{Glance}
use Rattle.sms_message.specs.Message.Glance.{flag_of}
use Rattle.sms_message.specs.declared.message.Message.{Message}
use Rattle.sms_message.specs.declared.message.Message.TheVariants.{NotCp, Note, Tiny, Data}
use Rattle.sms_message.specs.declared.outcome.Step.{Step}
use Rattle.sms_message.specs.declared.outcome.Dropped.{Dropped}
use Rattle.sms_message.specs.declared.outcome.Dropped.TheVariants as dropped
use Rattle.sms_message.specs.Message.Reading.{ReadsAs}
use Rattle.sms_party.specs.Sender.Value.{SenderValue}
use Rattle.sms_party.specs.Sender.Answers.{sender_takes}
use Rattle.sms_party.specs.Sender.Stands as sender
use Rattle.sms_party.specs.Sender.Waits.{waits_for}
use Rattle.sms_party.specs.Receiver.Waits.{takes_up}
use Rattle.sms_party.specs.Receiver.{receiver_receives}
use Rattle.sms_party.specs.Receiver.Standing as receiver
use Rattle.sms_party.specs.Receiver.Standing.{ReceiverValue}

pub record PhoneValue : Type 0 where
  pub sender : SenderValue
  pub receiver : ReceiverValue

-- The message is of a transaction that the phone has opened: the flag is 1 (3GPP TS 24.007,
-- 11.2.3.1.3).
abbrev pub is_answer : Message → Bool
is_answer NotCp = false
is_answer (Note flag value) = flag
is_answer (Tiny flag value) = flag
is_answer (Data flag tag relay) = flag

-- What the sender waits for, and what the receiver takes up.
abbrev pub phone_takes_up : PhoneValue → Glance → Bool
phone_takes_up phone seen = if flag_of seen then waits_for phone.sender seen else takes_up seen

-- One of the two takes the message, and the other one stays as it is.
abbrev pub TakesBy : Bool → ℕ → Message → PhoneValue → Result Step Dropped → PhoneValue → Type 0
TakesBy true now message old result new =
    sender.Steps (λ x phone. sender_takes x phone message) old.sender result new.sender
    × (new.receiver ≡ old.receiver)
TakesBy false now message old result new =
    receiver.Steps (λ limits s origin. receiver_receives limits s now message origin) old.receiver
    result new.receiver
    × (new.sender ≡ old.sender)

-- Octets come: they are read as a message, and one of the two takes it. Or memory ran out, and
-- nothing has changed.
abbrev pub PhoneReceives : ℕ → List ℕ → PhoneValue → Result Step Dropped → PhoneValue → Type 0
PhoneReceives now octets old (Err dropped.Memory) new = new ≡ old
PhoneReceives now octets old result new =
    (message : Message) × ReadsAs octets message
    × TakesBy (is_answer message) now message old result new
