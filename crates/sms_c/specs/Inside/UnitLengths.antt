-- A reader may pass this by: how many octets the unit of a record takes, of those from its front to
-- the end of the record.
use Rattle.std.specs.Prelude.{◌≡◌, ℕ, List, [], take, drop}
use Rattle.sms_field.specs.Reading.{Reads}
use Rattle.sms_field.specs.Reading.Lies.{TakesOctets}
use Rattle.sms_tpdu.specs.Command.{command}
use Rattle.sms_tpdu.specs.Deliver.{deliver}
use Rattle.sms_tpdu.specs.StatusReport.{StatusReportValue, status_report}
use Rattle.sms_tpdu.specs.Submit.{submit}
use Rattle.sms_card.specs.Padding.{IsPadding}
use Rattle.sms_card.specs.Report.{stored_report}
use Rattle.sms_card.specs.declared.originated.OriginatedUnit.TheVariants as originated
use Rattle.sms_card.specs.declared.received.ReceivedUnit.TheVariants as received
use Rattle.sms_card.specs.declared.stored.Record.{Record}
use Rattle.sms_card.specs.declared.stored.Record.TheVariants as stored

-- a report that all of them are in a record is so many of them, and FF
abbrev pub ReportTakes : List ℕ → ℕ → Type 0
ReportTakes octets count =
    (r : StatusReportValue) → stored_report.reads r octets []
    → Reads status_report r (take count octets) count × IsPadding (drop count octets)

abbrev pub UnitTakes : Record → List ℕ → ℕ → Type 0
UnitTakes stored.Free octets count = count ≡ 0
UnitTakes (stored.Received unread centre (received.Deliver d)) octets count =
    TakesOctets deliver octets count
UnitTakes (stored.Received unread centre (received.StatusReport r)) octets count =
    ReportTakes octets count
UnitTakes (stored.Originated report centre (originated.Submit s)) octets count =
    TakesOctets submit octets count
UnitTakes (stored.Originated report centre (originated.Command c)) octets count =
    TakesOctets command octets count
