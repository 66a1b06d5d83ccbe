-- What came from the network, in a record: an SMS-DELIVER or an SMS-STATUS-REPORT, and FF to the
-- end (3GPP TS 51.011, 10.5.3; TS 23.040, 9.2.3.1).
pub mod Seen
use Rattle.std.specs.Prelude.{ℕ, Bool, true, false, List, Result, Ok, Err}
use Rattle.sms_field.specs.Bit.{bit}
use Rattle.sms_field.specs.Field.{Field, map_reason}
use Rattle.sms_field.specs.Field.Mapped.{mapped}
use Rattle.sms_tpdu.specs.Deliver.{deliver, SpellsDeliver}
use Rattle.sms_tpdu.specs.StatusReport.{SpellsStatusReport}
use Rattle.sms_tpdu.specs.declared.fault.UnitFault.TheVariants.{WrongType}
use Rattle.sms_card.specs.ByFirst.{by_first}
use Rattle.sms_card.specs.Fault.{record_fault}
use Rattle.sms_card.specs.Padding.{padded}
use Rattle.sms_card.specs.Report.{stored_report}
use Rattle.sms_card.specs.declared.fault.RecordFault.{RecordFault}
use Rattle.sms_card.specs.declared.fault.RecordFault.TheVariants.{Short, Unit as OfUnit}
use Rattle.sms_card.specs.declared.received.ReceivedKind.{ReceivedKind}
use Rattle.sms_card.specs.declared.received.ReceivedKind.TheVariants as kind
use Rattle.sms_card.specs.declared.received.ReceivedUnit.{ReceivedUnit}
use Rattle.sms_card.specs.declared.received.ReceivedUnit.TheVariants as received

-- TP-MTI, by bits 1 and 0
abbrev pub received_by : Bool → Bool → Result ReceivedKind RecordFault
received_by false false = Ok kind.Deliver
received_by true false = Ok kind.StatusReport
received_by other true = Err (OfUnit WrongType)

abbrev pub received_kind : ℕ → Result ReceivedKind RecordFault
received_kind octet = received_by (bit 1 octet) (bit 0 octet)

unfoldable pub received_as : ReceivedKind → Field ReceivedUnit RecordFault
received_as kind.Deliver = padded received.Deliver (map_reason record_fault deliver)
received_as kind.StatusReport = mapped received.StatusReport stored_report

abbrev pub received_unit : Field ReceivedUnit RecordFault
received_unit = by_first Short received_kind received_as

-- how it is written
abbrev pub SpellsReceived : ReceivedUnit → List ℕ → Type 0
SpellsReceived (received.Deliver d) octets = SpellsDeliver d octets
SpellsReceived (received.StatusReport r) octets = SpellsStatusReport r octets
