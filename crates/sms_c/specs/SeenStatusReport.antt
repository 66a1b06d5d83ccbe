-- What C sees of an SMS-STATUS-REPORT that was read.
use Rattle.std.specs.Prelude.{◌≡◌, ℕ, List, is_some, unwrap_or}
use Rattle.sms_tpdu.specs.Report.AnnouncedParts.{report_alphabet}
use Rattle.sms_tpdu.specs.StatusReport.{StatusReportValue}
use Rattle.sms_tpdu.specs.StatusReport.Spans.{StatusReportLies}
use Rattle.sms_tpdu.specs.declared.status_report.spans.StatusReportSpans.{StatusReportSpans}
use Rattle.sms_c.specs.Parts.{alphabet_number, bit, span_at}
use Rattle.sms_c.specs.SeenReport.{length_of, data_at, header_at}
use Rattle.sms_c.specs.declared.reading.status_report.StatusReportSeen.{StatusReportSeen}

-- an SMS-STATUS-REPORT that was read at the front of the octets, with the address and the data where
-- they lie; without a data coding scheme the alphabet is the 7-bit one
pub record ShowsStatusReport (value : StatusReportValue) (octets : List ℕ) (seen : StatusReportSeen)
    : Type 0 where
  pub more : seen.more ≡ bit value.more
  pub looped : seen.looped ≡ bit value.looped
  pub qualifier : seen.qualifier ≡ bit value.qualifier
  pub has_header : seen.has_header ≡ bit value.has_header
  pub reference : seen.reference ≡ value.reference
  pub recipient_kind : seen.recipient.type_of_number ≡ value.recipient.kind
  pub recipient_plan : seen.recipient.plan ≡ value.recipient.plan
  pub stamp : seen.stamp.octets ≡ value.stamp
  pub discharged : seen.discharged.octets ≡ value.discharged
  pub status : seen.status ≡ value.status
  pub has_pid : seen.has_pid ≡ bit (is_some value.pid)
  pub pid : seen.pid ≡ unwrap_or value.pid 0
  pub has_dcs : seen.has_dcs ≡ bit (is_some value.dcs)
  pub dcs : seen.dcs ≡ unwrap_or value.dcs 0
  pub has_data : seen.has_data ≡ bit (is_some value.user)
  pub length : seen.length ≡ length_of value.user
  pub alphabet : seen.alphabet ≡ alphabet_number (report_alphabet value.dcs)
  pub spans : StatusReportSpans
  pub lie : StatusReportLies value octets seen.used spans
  pub recipient : seen.recipient.octets ≡ span_at spans.recipient
  pub «data» : seen.«data» ≡ data_at spans.user
  pub header : seen.header ≡ header_at spans.user
