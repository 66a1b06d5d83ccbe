-- Records of a card that are written.
use Rattle.std.specs.Prelude.{◌≡◌, ◌<◌, ℕ, ◌==◌, ◌&&◌, ◌||◌, Bool, not, List, [], ◌∷◌, ◌++◌, length, Option, Some, None, Result, Ok, Err, if◌then◌else◌}
use Rattle.std.specs.Str.{chars}
use Rattle.sms_field.specs.RelayAddress.{optional_address_octets}
use Rattle.sms_field.specs.RelayAddress.Text.{relay_address_of_text}
use Rattle.sms_field.specs.RelayAddress.Value.{RelayAddressValue}
use Rattle.sms_field.specs.declared.fault.AddressFault.{AddressFault}
use Rattle.sms_field.specs.declared.refusal.Fault.{Fault}
use Rattle.sms_card.specs.Padding.{IsPadding}
use Rattle.sms_card.specs.Stored.Reading.{IsRecordFault, IsRecordIn}
use Rattle.sms_card.specs.declared.fault.RecordFault.{RecordFault}
use Rattle.sms_card.specs.declared.stored.Record.{Record}
use Rattle.sms_card.specs.declared.stored.TheConstants.{RECORD_LENGTH}
use Rattle.sms_c.specs.Class.{are_spare}
use Rattle.sms_c.specs.Status.{record_refused, status_of}
use Rattle.sms_c.specs.WrappingFaults.{centre_fault, first}
use Rattle.sms_c.specs.declared.record_writing.RecordFields.{RecordFields}
use Rattle.sms_c.specs.declared.status.Failure.{Failure}
use Rattle.sms_c.specs.declared.status.Failure.TheVariants.{OutOfRange}
use Rattle.sms_c.specs.declared.status.Refused.{Refused}

-- ---- what can be written

-- the octet of a status (3GPP TS 51.011, 10.5.3)
abbrev pub is_status : ℕ → Bool
is_status octet =
    octet == 0 || octet == 1 || octet == 3 || octet == 5 || octet == 7 || octet == 13 || octet == 21
    || octet == 29

-- all spare octets are 0, and free space has neither address nor unit
abbrev pub fits_record : RecordFields → List ℕ → List ℕ → Bool
fits_record fields centre unit =
    are_spare fields.spare && is_status fields.status
    && (not (fields.status == 0) || (length centre == 0 && length unit == 0))

-- the first fault of those that the fields and the address may have
abbrev pub writing_fault : RecordFields → List ℕ → List ℕ → Option Failure
writing_fault fields centre unit =
    first (if fits_record fields centre unit then None else Some OutOfRange) (centre_fault centre)

-- the number of the fault where there is one; else it is written, refused, or lacks room, or memory
-- ran out
abbrev pub IsWriteTold : ℕ → Option Failure → Type 0
IsWriteTold status None = status < 4
IsWriteTold status (Some why) = status ≡ status_of why

-- ---- what is written

abbrev pub ok_address : Result RelayAddressValue AddressFault → Option RelayAddressValue
ok_address (Ok address) = Some address
ok_address (Err _) = None

-- the address of a text, and none of no text
abbrev pub centre_told : List ℕ → Option RelayAddressValue
centre_told text =
    if length text == 0 then None else ok_address (relay_address_of_text (chars text))

-- the status, the address and the unit; of free space the status alone
abbrev pub front_octets : ℕ → Option RelayAddressValue → List ℕ → List ℕ
front_octets status centre unit =
    if status == 0 then status ∷ [] else status ∷ (optional_address_octets centre ++ unit)

abbrev pub front_told : RecordFields → List ℕ → List ℕ → List ℕ
front_told fields centre unit = front_octets fields.status (centre_told centre) unit

-- and after them FF, up to as many octets as a record has
pub record IsFilled (front octets : List ℕ) : Type 0 where
  pub filled : List ℕ
  pub padding : IsPadding filled
  pub parts : octets ≡ front ++ filled
  pub size : length octets ≡ RECORD_LENGTH

-- what becomes of the record that these octets are
pub record OfRecord (fields : RecordFields) (centre unit : List ℕ) (Out : List ℕ → Type 0)
    : Type 0 where
  pub value : Record
  pub read : IsRecordIn (front_told fields centre unit) value
  pub octets : List ℕ
  pub filled : IsFilled (front_told fields centre unit) octets
  pub out : Out octets

-- they are no record
pub record RefusesRecord (fields : RecordFields) (centre unit : List ℕ) (refused : Refused)
    : Type 0 where
  pub fault : Fault RecordFault
  pub refuses : IsRecordFault (front_told fields centre unit) fault
  pub told : refused ≡ record_refused fault

-- they are one
pub record IsWritable (fields : RecordFields) (centre unit : List ℕ) : Type 0 where
  pub value : Record
  pub read : IsRecordIn (front_told fields centre unit) value
