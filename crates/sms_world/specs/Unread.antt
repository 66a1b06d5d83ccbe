-- Octets that say nothing.
use Rattle.std.specs.Prelude.{◌≡◌, ℕ, Bool, true, false, List, []}
use Rattle.sms_message.specs.declared.message.TransferUnit.{TransferUnit}
use Rattle.sms_message.specs.declared.message.TransferUnit.TheVariants.{Submit, Deliver, OtherUnit, BadUnit}
use Rattle.sms_message.specs.declared.message.Relay.{Relay}
use Rattle.sms_message.specs.declared.message.Relay.TheVariants.{Transfer, Answer, UnknownType, Unreadable}
use Rattle.sms_message.specs.declared.message.Message.{Message}
use Rattle.sms_message.specs.declared.message.Message.TheVariants.{NotCp, Note, Tiny, Data}
use Rattle.sms_message.specs.Message.Reading.{ReadsAs}
use Rattle.sms_party.specs.Sent.{Place, Sent}
use Rattle.sms_world.specs.Told.{Told}
use Rattle.sms_world.specs.Machine.{Machine}
use Rattle.sms_world.specs.Machine.Event.{Inject}
use Rattle.sms_world.specs.Machine.Step.{Step}

-- Octets that no CP message reads change nothing, and put nothing out.
abbrev pub UnreadChangesNothing : Type 0
UnreadChangesNothing =
    (m : Machine) (place : Place) (octets : List ℕ) → ReadsAs octets NotCp
    → (told : Told) (put : List Sent) (n : Machine) → Step m (Inject place octets) told put n
    → (n ≡ m) × (put ≡ [])

-- the unit of an RP-DATA is none of those that are read
abbrev pub is_no_unit : TransferUnit → Bool
is_no_unit (Submit s) = false
is_no_unit (Deliver d) = false
is_no_unit OtherUnit = true
is_no_unit BadUnit = true

abbrev pub is_no_relay : Relay → Bool
is_no_relay (Transfer side unit) = is_no_unit unit
is_no_relay (Answer side cause report) = false
is_no_relay UnknownType = true
is_no_relay Unreadable = true

-- a CP-DATA without a readable RP message, or whose RP-DATA holds no readable unit
abbrev pub says_nothing : Message → Bool
says_nothing NotCp = true
says_nothing (Note flag value) = false
says_nothing (Tiny flag value) = true
says_nothing (Data flag tag relay) = is_no_relay relay

-- every party is as it was
pub record PartiesStay (m n : Machine) : Type 0 where
  pub senders : n.senders ≡ m.senders
  pub centre : n.centre ≡ m.centre
  pub receivers : (phone : ℕ) → n.receiver phone ≡ m.receiver phone

-- Such octets change no party: they are answered or dropped.
abbrev pub NothingSaidChangesNoParty : Type 0
NothingSaidChangesNoParty =
    (m : Machine) (place : Place) (octets : List ℕ) (message : Message) → ReadsAs octets message
    → says_nothing message ≡ true
    → (told : Told) (put : List Sent) (n : Machine) → Step m (Inject place octets) told put n
    → PartiesStay m n
