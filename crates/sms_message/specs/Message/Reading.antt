-- The message as which octets are read (3GPP TS 24.011, 7.2 and 7.3).
use Rattle.std.specs.Prelude.{◌≡◌, ℕ, ◌<◌, ◌≤◌, Bool, List, ◌∷◌, length, Option, Some, None}
use Rattle.sms_text.specs.Octets.{IsOctets}
use Rattle.sms_field.specs.Field.{HasReading}
use Rattle.sms_field.specs.Reading.{Reads}
use Rattle.sms_field.specs.Reading.Reasons.{StartsAs}
use Rattle.sms_field.specs.RelayAddress.Value.{RelayAddressValue}
use Rattle.sms_tpdu.specs.Submit.{submit}
use Rattle.sms_tpdu.specs.Submit.Flags.{submit_flags}
use Rattle.sms_tpdu.specs.Deliver.{deliver}
use Rattle.sms_tpdu.specs.Deliver.Flags.{deliver_flags}
use Rattle.sms_tpdu.specs.Report.{submit_ack, submit_error, deliver_ack, deliver_error}
use Rattle.sms_tpdu.specs.declared.fault.UnitFault.TheVariants.{WrongType}
use Rattle.sms_relay.specs.Cp.{cp_message}
use Rattle.sms_relay.specs.Rp.Kind.{rp_type}
use Rattle.sms_relay.specs.Rp.{rp_message}
use Rattle.sms_relay.specs.Carried as carried
use Rattle.sms_relay.specs.declared.side.Side.{Side}
use Rattle.sms_relay.specs.declared.side.Side.TheVariants.{FromPhone, ToPhone}
use Rattle.sms_relay.specs.declared.cp.CpBody.{CpBody}
use Rattle.sms_relay.specs.declared.cp.CpBody.TheVariants as cp
use Rattle.sms_relay.specs.declared.rp.RpBody.{RpBody}
use Rattle.sms_relay.specs.declared.rp.RpBody.TheVariants as rp
use Rattle.sms_relay.specs.declared.fault.RelayFault.TheVariants as fault
use Rattle.sms_message.specs.declared.message.TransferUnit.{TransferUnit}
use Rattle.sms_message.specs.declared.message.TransferUnit.TheVariants.{Submit, Deliver, OtherUnit, BadUnit}
use Rattle.sms_message.specs.declared.message.Report.{Report}
use Rattle.sms_message.specs.declared.message.Report.TheVariants.{SubmitAck, SubmitError, DeliverAck, DeliverError}
use Rattle.sms_message.specs.declared.message.Relay.{Relay}
use Rattle.sms_message.specs.declared.message.Relay.TheVariants.{Transfer, Answer, UnknownType, Unreadable}
use Rattle.sms_message.specs.declared.message.Message.{Message}
use Rattle.sms_message.specs.declared.message.Message.TheVariants.{NotCp, Note, Tiny, Data}

-- a unit of the side's type; another type; another fault
abbrev pub ReadsUnit : Side → List ℕ → TransferUnit → Type 0
ReadsUnit FromPhone octets (Submit s) = (used : ℕ) × Reads submit s octets used
ReadsUnit FromPhone octets OtherUnit = StartsAs submit_flags WrongType octets
ReadsUnit FromPhone octets BadUnit =
    (¬ HasReading submit octets) × (¬ StartsAs submit_flags WrongType octets)
ReadsUnit ToPhone octets (Deliver d) = (used : ℕ) × Reads deliver d octets used
ReadsUnit ToPhone octets OtherUnit = StartsAs deliver_flags WrongType octets
ReadsUnit ToPhone octets BadUnit =
    (¬ HasReading deliver octets) × (¬ StartsAs deliver_flags WrongType octets)
ReadsUnit _ octets _ = ⊥

-- a report of the kind that the answer has
abbrev pub ReadsSomeReport : Side → Option ℕ → List ℕ → Option Report → Type 0
ReadsSomeReport ToPhone None octets (Some (SubmitAck r)) =
    (used : ℕ) × Reads submit_ack r octets used
ReadsSomeReport ToPhone (Some cause) octets (Some (SubmitError r)) =
    (used : ℕ) × Reads submit_error r octets used
ReadsSomeReport FromPhone None octets (Some (DeliverAck r)) =
    (used : ℕ) × Reads deliver_ack r octets used
ReadsSomeReport FromPhone (Some cause) octets (Some (DeliverError r)) =
    (used : ℕ) × Reads deliver_error r octets used
ReadsSomeReport ToPhone None octets None = ¬ HasReading submit_ack octets
ReadsSomeReport ToPhone (Some cause) octets None = ¬ HasReading submit_error octets
ReadsSomeReport FromPhone None octets None = ¬ HasReading deliver_ack octets
ReadsSomeReport FromPhone (Some cause) octets None = ¬ HasReading deliver_error octets
ReadsSomeReport _ _ octets _ = ⊥

abbrev pub ReadsReport : Side → Option ℕ → Option (List ℕ) → Option Report → Type 0
ReadsReport side cause None report = report ≡ None
ReadsReport side cause (Some octets) report =
    IsOctets octets × ReadsSomeReport side cause octets report

-- the body of an RP-ACK, or with a cause of an RP-ERROR
abbrev pub answer_body : Option ℕ → Option ℕ → Option (List ℕ) → RpBody
answer_body None diagnostic user = rp.Ack user
answer_body (Some cause) diagnostic user = rp.Fail cause diagnostic user

-- an RP-DATA, whatever its address
pub record ReadsTransfer (octets : List ℕ) (side : Side) (reference : ℕ)
    (read : TransferUnit) : Type 0 where
  pub address : Option RelayAddressValue
  pub user : List ℕ
  pub are_octets : IsOctets user
  pub used : ℕ
  pub relay : Reads rp_message
      (record { side = side; reference = reference; body = rp.Transfer address user })
      octets used
  pub unit : ReadsUnit side user read

-- an RP-ACK or RP-ERROR, whatever its diagnostic
pub record ReadsAnswer (octets : List ℕ) (side : Side) (reference : ℕ) (cause : Option ℕ)
    (read : Option Report) : Type 0 where
  pub diagnostic : Option ℕ
  pub user : Option (List ℕ)
  pub used : ℕ
  pub relay : Reads rp_message
      (record { side = side; reference = reference; body = answer_body cause diagnostic user })
      octets used
  pub report : ReadsReport side cause user read

-- the RP message in the octets of a CP-DATA; or none, since its type is unknown, or for another
-- fault
abbrev pub ReadsRelay : List ℕ → ℕ → Relay → Type 0
ReadsRelay octets reference (Transfer side unit) = ReadsTransfer octets side reference unit
ReadsRelay octets reference (Answer side cause report) =
    ReadsAnswer octets side reference cause report
ReadsRelay octets reference UnknownType = StartsAs rp_type fault.UnknownType octets
ReadsRelay octets reference Unreadable =
    (¬ HasReading rp_message octets) × (¬ StartsAs rp_type fault.UnknownType octets)

abbrev pub IsSecond : ℕ → List ℕ → Type 0
IsSecond octet (first ∷ second ∷ rest) = octet ≡ second
IsSecond octet _ = ⊥

abbrev pub IsNote : CpBody → Type 0
IsNote (cp.Transfer octets) = ⊥
IsNote _ = Unit {0}

pub record ReadsData (packet : List ℕ) (flag : Bool) (value : ℕ) (octets : List ℕ) : Type 0 where
  pub are_octets : IsOctets octets
  pub used : ℕ
  pub connection : Reads cp_message
      (carried.in_transaction flag value (cp.Transfer octets)) packet used

-- The octets are a CP-DATA of two octets or more.
abbrev pub IsLongData : List ℕ → Type 0
IsLongData packet =
    (flag : Bool) × (value : ℕ) × (octets : List ℕ) × ReadsData packet flag value octets
    × (2 ≤ length octets)

-- The octets are no CP message; a CP-ACK or CP-ERROR; a CP-DATA of fewer than two octets; or a
-- CP-DATA, with the second of its octets as the reference, whether or not they are an RP message.
abbrev pub ReadsAs : List ℕ → Message → Type 0
ReadsAs packet NotCp = ¬ HasReading cp_message packet
ReadsAs packet (Note flag value) =
    (body : CpBody) × (used : ℕ) × IsNote body
    × Reads cp_message (carried.in_transaction flag value body) packet used
ReadsAs packet (Tiny flag value) =
    (octets : List ℕ) × ReadsData packet flag value octets × (length octets < 2)
ReadsAs packet (Data flag tag relay) =
    (octets : List ℕ) × ReadsData packet flag tag.value octets × IsSecond tag.reference octets
    × ReadsRelay octets tag.reference relay

-- the transaction value of what was read
abbrev pub HasTag : Message → Type 0
HasTag (Note flag value) = value < 7
HasTag (Tiny flag value) = value < 7
HasTag (Data flag tag relay) = tag.value < 7
HasTag NotCp = Unit {0}
