-- The states of the machine for which the code of the whole stands.
use Rattle.std.specs.Prelude.{◌≡◌, ℕ, ◌<◌, if◌then◌else◌, List, [], ◌∷◌, length, reverse, Some, slice_get}
use Rattle.std.specs.List.{AllByRecursion}
use Rattle.sms_field.specs.Address.Value.{AddressValue}
use Rattle.sms_field.specs.Time.Computed.{end_of_2099}
use Rattle.sms_party.specs.Sent.{Place, Centre, Phone, Sent}
use Rattle.sms_message.specs.Message.Carrying.{Carries}
use Rattle.sms_centre.specs.Centre.Standing as centre
use Rattle.sms_party.specs.Sender.Stands.{SenderStands}
use Rattle.sms_party.specs.Receiver.Standing as receiver
use Rattle.sms_party.specs.Phone.{PhoneValue}
use Rattle.sms_script.specs.Transcript.Lines.{PacketValue}
use Rattle.sms_script.specs.declared.script.limits.Limits.{Limits}
use Rattle.sms_world.specs.Told.{Told}
use Rattle.sms_world.specs.Machine.{Machine, start}
use Rattle.sms_world.specs.Machine.Event.{Event}
use Rattle.sms_world.specs.Machine.Next.{receiver_limits}
use Rattle.sms_world.specs.Machine.Step.{Run}
use Rattle.sms_world.specs.World.Value.{PartiesValue, WorldValue}

-- where a packet goes
abbrev pub place_of : PacketValue → Place
place_of p = if p.is_up then Centre p.phone else Phone p.phone

-- The packet carries the message to where it goes.
abbrev pub IsPacketOf : PacketValue → Sent → Type 0
IsPacketOf p x = (x.to ≡ place_of p) × Carries p.octets x.message

-- These are packets of what was put out, each of its own message, in the same order.
abbrev pub ArePacketsOf : List PacketValue → List Sent → Type 0
ArePacketsOf [] [] = Unit {0}
ArePacketsOf (p ∷ packets) (x ∷ sent) = IsPacketOf p x × ArePacketsOf packets sent
ArePacketsOf _ _ = ⊥

-- The parties stand for those of the machine: the centre for its centre, and each phone for its
-- sender and its receiver.
pub record PartiesStand (v : PartiesValue) (m : Machine) : Type 0 where
  pub centre_stands : centre.StandsFor m.limits.held m.phones m.clock v.centre m.centre
  pub as_many : length v.phones ≡ length m.phones
  pub senders_stand : (p : ℕ) (phone : PhoneValue) → slice_get v.phones p ≡ Some phone
      → SenderStands p phone.sender m.senders
  pub receivers_stand : (p : ℕ) (phone : PhoneValue) → slice_get v.phones p ≡ Some phone
      → receiver.StandsFor (receiver_limits m.limits) phone.receiver (m.receiver p)

-- The world stands for a state of the machine: limits and clock are the same, its parties stand for
-- the machine's, and its packets are those of all that was ever put out.
pub record StandsFor (v : WorldValue) (m : Machine) : Type 0 where
  pub limits_are : m.limits ≡ v.limits
  pub clock_is : m.clock ≡ v.clock
  pub parties_stand : PartiesStand v.parties m
  pub packets_are : ArePacketsOf v.packets (reverse m.sent)

-- A run of these events, each with its answer, led from the first state of these limits and phones
-- to a state that the world stands for.
pub record ComesOfRun (v : WorldValue) : Type 0 where
  pub limits : Limits
  pub phones : List AddressValue
  pub past : List (Event × Told)
  pub machine : Machine
  pub runs : Run (start limits phones) past machine
  pub stands : StandsFor v machine

-- What is true of every world: its clock stands before the end of 2099, each packet is of one of
-- its phones, and a run led to a state for which it stands.
pub record IsWorld (v : WorldValue) : Type 0 where
  pub clock : v.clock < end_of_2099
  pub ways : AllByRecursion (λ p. p.phone < length v.parties.phones) v.packets
  pub comes : ComesOfRun v
