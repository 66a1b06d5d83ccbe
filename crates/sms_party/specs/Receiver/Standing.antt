-- What the code of a receiving phone holds, the states for which it stands, and what it means that
-- a call is a step.
use Rattle.std.specs.Prelude.{◌≡◌, ℕ, List, reverse, Option, Result, Err}
use Rattle.sms_join.specs.Joiner.Value.{JoinerValue}
use Rattle.sms_join.specs.Joiner.Same.{IsSame}
use Rattle.sms_message.specs.Message.{Origin}
use Rattle.sms_message.specs.Message.Reading.{ReadsAs}
use Rattle.sms_message.specs.Does.{Does, Answered}
use Rattle.sms_party.specs.Receiver.{receiver_receives}
use Rattle.sms_party.specs.Receiver.State.{Entry, ReceiverLimits, ReceiverState, new_receiver}
use Rattle.sms_party.specs.Receiver.Aging.{ages}
use Rattle.sms_message.specs.declared.message.Message.{Message}
use Rattle.sms_message.specs.declared.outcome.Step.{Step}
use Rattle.sms_message.specs.declared.outcome.Dropped.{Dropped}
use Rattle.sms_message.specs.declared.outcome.Dropped.TheVariants as dropped

pub record ReceiverValue : Type 0 where
  -- how many texts may be stored
  pub limit : ℕ
  pub joiner : JoinerValue
  -- in order of completion
  pub store : List Entry

-- The phone stands for a state: its joiner holds the same, in whatever order, and its store is the
-- state's, in the other order.
pub record StandsFor (limits : ReceiverLimits) (v : ReceiverValue)
    (s : ReceiverState) : Type 0 where
  pub limit_is : v.limit ≡ limits.store
  pub open_max_is : v.joiner.open_max ≡ limits.open_max
  pub remembered_is : v.joiner.remembered ≡ limits.remembered
  pub same : IsSame v.joiner.holds s.joiner
  pub store_is : v.store ≡ reverse s.store

-- In a state the phone did this: what is said of each party (Does), where the value stands for the
-- state.
abbrev pub ReceiverAnswers : ReceiverLimits → ReceiverState → Does ReceiverState
    → Result Step Dropped → ReceiverValue → Type 0
ReceiverAnswers limits s d result v = Answered (λ after. StandsFor limits v after) s d result

-- From each state that the old value stands for there is a step to a state that the new one stands
-- for.
abbrev pub Steps : (ReceiverLimits → ReceiverState → Option Origin → Does ReceiverState)
    → ReceiverValue → Result Step Dropped → ReceiverValue → Type 0
Steps does old result new =
    (limits : ReceiverLimits) (s : ReceiverState) (origin : Option Origin) → StandsFor limits old s
    → ReceiverAnswers limits s (does limits s origin) result new

-- The value stands for a new phone with these limits.
abbrev pub IsNew : ReceiverLimits → ReceiverValue → Type 0
IsNew limits v = StandsFor limits v new_receiver

-- From each state that the old value stands for, the new one stands for the state in which the old
-- sets are dropped, whatever number of segments each text has.
abbrev pub AgesTo : ℕ → ReceiverValue → ReceiverValue → Type 0
AgesTo now old new =
    (limits : ReceiverLimits) (s : ReceiverState) (size : ℕ → ℕ) → StandsFor limits old s
    → StandsFor limits new (ages size now s)

-- Octets come: they are read as a message, and the phone does what the message makes it do,
-- whatever segment the message is of. If memory runs out, it stands for the state that was.
abbrev pub ReceivesAs : ℕ → List ℕ → ReceiverValue → Result Step Dropped → ReceiverValue → Type 0
ReceivesAs now octets old (Err dropped.Memory) new =
    (limits : ReceiverLimits) (s : ReceiverState) → StandsFor limits old s → StandsFor limits new s
ReceivesAs now octets old result new =
    (message : Message) × ReadsAs octets message
    × Steps (λ limits s origin. receiver_receives limits s now message origin) old result new
