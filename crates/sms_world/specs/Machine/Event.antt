-- What can happen to the machine.
use Rattle.std.specs.Prelude.{◌≡◌, ℕ, List}
use Rattle.sms_text.specs.Octets.{IsOctets}
use Rattle.sms_field.specs.Address.Value.{AddressValue}
use Rattle.sms_tpdu.specs.declared.user_data.concat.Width.{Width}
use Rattle.sms_join.specs.declared.units.Units.{Units}
use Rattle.sms_join.specs.UnitsOfText.{IsText}
use Rattle.sms_join.specs.Cut.{IsCut}
use Rattle.sms_message.specs.declared.message.Message.{Message}
use Rattle.sms_message.specs.Message.Reading.{ReadsAs}
use Rattle.sms_party.specs.Sent.{Place}

pub data Event : Type 0 where
  -- someone types these characters at a phone, to this address
  Compose : (phone : ℕ) → (target : AddressValue) → (characters : List ℕ) → Event
  -- the packet of this number, counted from 1, comes to its destination: once more, if it came
  -- before
  Carry : (packet : ℕ) → Event
  -- a phone has waited for its answer for too long
  Timeout : (phone : ℕ) → Event
  -- the centre hands a message to a phone
  Push : (phone : ℕ) → Event
  -- as many seconds pass
  Tick : (seconds : ℕ) → Event
  -- octets come that nobody put out
  Inject : Place → (octets : List ℕ) → Event

-- An event as the machine meets it: a typed text with its cut into segments, octets with the
-- message as which they are read.
pub data Act : Type 0 where
  TypesText : (phone : ℕ) → (target : AddressValue) → (characters : List ℕ) → (pieces : List Units)
      → Act
  MovesPacket : (packet : ℕ) → Act
  EndsWait : (phone : ℕ) → Act
  HandsOver : (phone : ℕ) → Act
  MovesClock : (seconds : ℕ) → Act
  SlipsIn : Place → Message → Act

-- The event is this act, where texts are cut for concatenation references of this width. (Each
-- event is just one act.)
abbrev pub IsMetAs : Width → Event → Act → Type 0
IsMetAs width (Compose phone target characters) act =
    (pieces : List Units) × IsText characters × IsCut width characters pieces
    × (act ≡ TypesText phone target characters pieces)
IsMetAs width (Carry k) act = act ≡ MovesPacket k
IsMetAs width (Timeout phone) act = act ≡ EndsWait phone
IsMetAs width (Push phone) act = act ≡ HandsOver phone
IsMetAs width (Tick seconds) act = act ≡ MovesClock seconds
IsMetAs width (Inject place octets) act =
    (message : Message) × IsOctets octets × ReadsAs octets message × (act ≡ SlipsIn place message)
