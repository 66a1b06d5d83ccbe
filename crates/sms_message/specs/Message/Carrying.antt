-- Packets that carry messages (3GPP TS 24.011, 7.2 and 7.3).
use Rattle.std.specs.Prelude.{ℕ, List, [], ◌∷◌, Option, Some, None}
use Rattle.sms_field.specs.RelayAddress.Value.{RelayAddressValue}
use Rattle.sms_tpdu.specs.Submit.{SpellsSubmit}
use Rattle.sms_tpdu.specs.Deliver.{SpellsDeliver}
use Rattle.sms_tpdu.specs.Report.{SpellsSubmitAck, SpellsSubmitError, SpellsDeliverAck, SpellsDeliverError}
use Rattle.sms_relay.specs.Carried as carried
use Rattle.sms_relay.specs.declared.side.Side.{Side}
use Rattle.sms_relay.specs.declared.side.Side.TheVariants.{FromPhone, ToPhone}
use Rattle.sms_message.specs.declared.message.TransferUnit.{TransferUnit}
use Rattle.sms_message.specs.declared.message.TransferUnit.TheVariants.{Submit, Deliver}
use Rattle.sms_message.specs.declared.message.Report.{Report}
use Rattle.sms_message.specs.declared.message.Report.TheVariants.{SubmitAck, SubmitError, DeliverAck, DeliverError}
use Rattle.sms_message.specs.declared.message.Relay.TheVariants.{Transfer, Answer}
use Rattle.sms_message.specs.declared.message.Message.{Message}
use Rattle.sms_message.specs.declared.message.Message.TheVariants.{Note, Data}

-- the RP address of the centre, +1000
abbrev pub centre_address : RelayAddressValue
centre_address = record { kind = 1; plan = 1; digits = 1 ∷ 0 ∷ 0 ∷ 0 ∷ [] }

-- the units that a side has, as they are written
abbrev pub SpellsUnit : Side → TransferUnit → List ℕ → Type 0
SpellsUnit FromPhone (Submit s) octets = SpellsSubmit s octets
SpellsUnit ToPhone (Deliver d) octets = SpellsDeliver d octets
SpellsUnit _ _ octets = ⊥

-- the reports that answers of a side have, to a refusal and otherwise
abbrev pub SpellsReport : Side → Option ℕ → Option Report → Option (List ℕ) → Type 0
SpellsReport side cause None None = Unit {0}
SpellsReport ToPhone None (Some (SubmitAck r)) (Some octets) = SpellsSubmitAck r octets
SpellsReport ToPhone (Some cause) (Some (SubmitError r)) (Some octets) = SpellsSubmitError r octets
SpellsReport FromPhone None (Some (DeliverAck r)) (Some octets) = SpellsDeliverAck r octets
SpellsReport FromPhone (Some cause) (Some (DeliverError r)) (Some octets) =
    SpellsDeliverError r octets
SpellsReport _ _ _ _ = ⊥

-- A CP-ACK carries an acknowledgement. A CP-DATA carries a transfer with the centre's address and a
-- unit, or the answer to one with its report, if it has one. Nothing carries the other messages:
-- they are only read.
abbrev pub Carries : List ℕ → Message → Type 0
Carries packet (Note flag value) = carried.Carries flag value carried.acknowledgement packet
Carries packet (Data flag tag (Transfer side unit)) =
    (octets : List ℕ) × SpellsUnit side unit octets
    × carried.Carries flag tag.value
    (carried.transfer side tag.reference (Some centre_address) octets) packet
Carries packet (Data flag tag (Answer side cause report)) =
    (octets : Option (List ℕ)) × SpellsReport side cause report octets
    × carried.Carries flag tag.value (carried.answer side tag.reference cause octets) packet
Carries packet _ = ⊥
