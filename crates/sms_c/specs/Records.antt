-- What C sees of a record of a card, EF-SMS (3GPP TS 51.011, 10.5.3; TS 31.102, 4.2.25).
use Rattle.std.specs.Prelude.{◌≡◌, ℕ, ◌+◌, List, drop, Option, Some, None, is_some}
use Rattle.sms_field.specs.Field.{Field}
use Rattle.sms_field.specs.Reading.{Reads}
use Rattle.sms_field.specs.RelayAddress.{relay_address}
use Rattle.sms_field.specs.RelayAddress.Value.{RelayAddressValue}
use Rattle.sms_tpdu.specs.Command.{command}
use Rattle.sms_tpdu.specs.Deliver.{deliver}
use Rattle.sms_tpdu.specs.StatusReport.{status_report}
use Rattle.sms_tpdu.specs.Submit.{submit}
use Rattle.sms_card.specs.Padding.{IsPadding}
use Rattle.sms_card.specs.Status.{status_octet}
use Rattle.sms_card.specs.Stored.{status_in}
use Rattle.sms_card.specs.declared.originated.OriginatedUnit.TheVariants as originated
use Rattle.sms_card.specs.declared.received.ReceivedUnit.TheVariants as received
use Rattle.sms_card.specs.declared.stored.Record.{Record}
use Rattle.sms_card.specs.declared.stored.Record.TheVariants as stored
use Rattle.sms_c.specs.Parts.{bit, no_span, octets_at}
use Rattle.sms_c.specs.declared.parts.Span.{Span}
use Rattle.sms_c.specs.declared.records.RecordSeen.{RecordSeen}

-- which unit: none, SMS-DELIVER, SMS-STATUS-REPORT, SMS-SUBMIT or SMS-COMMAND
abbrev pub unit_kind : Record → ℕ
unit_kind stored.Free = 0
unit_kind (stored.Received unread centre (received.Deliver d)) = 1
unit_kind (stored.Received unread centre (received.StatusReport r)) = 2
unit_kind (stored.Originated report centre (originated.Submit s)) = 3
unit_kind (stored.Originated report centre (originated.Command c)) = 4

-- TS-Service-Centre-Address
abbrev pub centre_of : Record → Option RelayAddressValue
centre_of stored.Free = None
centre_of (stored.Received unread centre unit) = centre
centre_of (stored.Originated report centre unit) = centre

-- the octets of its span, after the status, are all read as the address
abbrev pub CentreLies : Option RelayAddressValue → List ℕ → Span → Type 0
CentreLies None octets span = span ≡ no_span
CentreLies (Some address) octets span =
    (span.offset ≡ 1) × Reads relay_address (Some address) (octets_at octets span) span.length

-- the octets of its span are all read as the unit, and after them stands FF to the end
pub record LiesPadded {V W : Type 0} (field : Field V W) (value : V) (octets : List ℕ)
    (span : Span) : Type 0 where
  pub read : Reads field value (octets_at octets span) span.length
  pub padding : IsPadding (drop (span.offset + span.length) octets)

abbrev pub UnitLies : Record → List ℕ → Span → Type 0
UnitLies stored.Free octets span = span ≡ no_span
UnitLies (stored.Received unread centre (received.Deliver d)) octets span =
    LiesPadded deliver d octets span
UnitLies (stored.Received unread centre (received.StatusReport r)) octets span =
    LiesPadded status_report r octets span
UnitLies (stored.Originated report centre (originated.Submit s)) octets span =
    LiesPadded submit s octets span
UnitLies (stored.Originated report centre (originated.Command c)) octets span =
    LiesPadded command c octets span

pub record ShowsRecord (value : Record) (octets : List ℕ) (seen : RecordSeen) : Type 0 where
  pub status : seen.status ≡ status_octet (status_in value)
  pub kind : seen.kind ≡ unit_kind value
  pub has_address : seen.has_address ≡ bit (is_some (centre_of value))
  pub address : CentreLies (centre_of value) octets seen.address
  pub unit : UnitLies value octets seen.unit
