-- A record of EF-SMS (3GPP TS 51.011, 10.5.3; TS 31.102, 4.2.25): its status, the address of the
-- service centre, the unit, and FF to the end.
pub mod Laws
pub mod Reading
pub mod Seen
use Rattle.std.specs.Prelude.{◌≡◌, ℕ, ◌<◌, Bool, true, false, List, [], ◌∷◌, ◌++◌, length, Option, Some, None}
use Rattle.sms_field.specs.Field.{Field, ◌>>=◌, octet_by, map_reason}
use Rattle.sms_field.specs.Field.Mapped.{mapped}
use Rattle.sms_field.specs.RelayAddress.{relay_address, optional_address_octets}
use Rattle.sms_field.specs.RelayAddress.Value.{RelayAddressValue, HasOptionalSpelling}
use Rattle.sms_card.specs.Fault.{centre_fault}
use Rattle.sms_card.specs.Originated.{originated_unit, SpellsOriginated}
use Rattle.sms_card.specs.Padding.{anything, IsPadding}
use Rattle.sms_card.specs.Received.{received_unit, SpellsReceived}
use Rattle.sms_card.specs.Status.{status_of, status_octet}
use Rattle.sms_card.specs.declared.fault.RecordFault.{RecordFault}
use Rattle.sms_card.specs.declared.fault.RecordFault.TheVariants.{Short}
use Rattle.sms_card.specs.declared.status.ReportState.{ReportState}
use Rattle.sms_card.specs.declared.status.Status.{Status}
use Rattle.sms_card.specs.declared.status.Status.TheVariants as status
use Rattle.sms_card.specs.declared.stored.Record.{Record}
use Rattle.sms_card.specs.declared.stored.Record.TheVariants as stored
use Rattle.sms_card.specs.declared.stored.TheConstants.{RECORD_LENGTH}

unfoldable pub received_after : Bool → Field Record RecordFault
received_after unread = do
  -- TS-Service-Centre-Address; too long, or a bad digit: Centre
  centre ← map_reason centre_fault relay_address
  -- the unit, and FF to the end
  mapped (stored.Received unread centre) received_unit

unfoldable pub originated_after : Option ReportState → Field Record RecordFault
originated_after report = do
  -- TS-Service-Centre-Address; too long, or a bad digit: Centre
  centre ← map_reason centre_fault relay_address
  -- the unit, and FF to the end
  mapped (stored.Originated report centre) originated_unit

-- the octets after the status; nothing is told of those of free space
unfoldable pub after_status : Status → Field Record RecordFault
after_status status.Free = mapped (λ (told : Unit {0}). stored.Free) anything
after_status status.Read = received_after false
after_status status.Unread = received_after true
after_status status.ToBeSent = originated_after None
after_status (status.Sent report) = originated_after (Some report)

unfoldable pub card_record : Field Record RecordFault
card_record = do
  -- the status; another octet: BadStatus
  told ← octet_by Short status_of
  after_status told

-- ---- as it is written

abbrev pub received_status : Bool → Status
received_status false = status.Read
received_status true = status.Unread

abbrev pub originated_status : Option ReportState → Status
originated_status None = status.ToBeSent
originated_status (Some report) = status.Sent report

abbrev pub status_in : Record → Status
status_in stored.Free = status.Free
status_in (stored.Received unread centre unit) = received_status unread
status_in (stored.Originated report centre unit) = originated_status report

-- the status, the centre and the unit
pub record SpellsUsed (told : Status) (centre : Option RelayAddressValue)
    (spelled : List ℕ → Type 0) (octets : List ℕ) : Type 0 where
  pub fits : HasOptionalSpelling centre
  pub unit : List ℕ
  pub of_unit : spelled unit
  pub parts : octets ≡ status_octet told ∷ (optional_address_octets centre ++ unit)

-- what stands before the padding
abbrev pub SpellsFront : Record → List ℕ → Type 0
SpellsFront stored.Free octets = octets ≡ status_octet status.Free ∷ []
SpellsFront (stored.Received unread centre unit) octets =
    SpellsUsed (received_status unread) centre (SpellsReceived unit) octets
SpellsFront (stored.Originated report centre unit) octets =
    SpellsUsed (originated_status report) centre (SpellsOriginated unit) octets

-- as many octets as a record has
pub record SpellsRecord (r : Record) (octets : List ℕ) : Type 0 where
  pub front : List ℕ
  pub filled : List ℕ
  pub spelled : SpellsFront r front
  pub padding : IsPadding filled
  pub parts : octets ≡ front ++ filled
  pub size : length octets ≡ RECORD_LENGTH

-- a record ends where its octets do
abbrev pub EndsHere : Record → List ℕ → Type 0
EndsHere r more = more ≡ []

-- what stands before the padding has more octets than a record
abbrev pub IsTooLong : Record → Type 0
IsTooLong r = (front : List ℕ) × SpellsFront r front × (RECORD_LENGTH < length front)
