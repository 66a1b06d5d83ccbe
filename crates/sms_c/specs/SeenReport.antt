-- What C sees of a report that was read.
use Rattle.std.specs.Prelude.{◌≡◌, ℕ, Bool, List, Option, Some, None, is_some, unwrap_or, IfSome}
use Rattle.sms_tpdu.specs.DataSpans.{DataLieIf}
use Rattle.sms_tpdu.specs.declared.data_spans.DataSpans.{DataSpans}
use Rattle.sms_tpdu.specs.declared.report.parts.ReportData.{ReportData}
use Rattle.sms_tpdu.specs.Report.AnnouncedParts.{report_alphabet}
use Rattle.sms_tpdu.specs.Report.{ReportValue, DeliverAckValue, DeliverErrorValue, SubmitAckValue, SubmitErrorValue}
use Rattle.sms_c.specs.Parts.{alphabet_number, bit, no_span, span_at, span_if}
use Rattle.sms_c.specs.declared.parts.Span.{Span}
use Rattle.sms_c.specs.declared.reading.report.ReportSeen.{ReportSeen}

-- TP-UDL, where there are data
abbrev pub length_of : Option ReportData → ℕ
length_of None = 0
length_of (Some user) = user.length

-- the data, and the header at their front
abbrev pub data_at : Option DataSpans → Span
data_at None = no_span
data_at (Some spans) = span_at spans.octets

abbrev pub header_at : Option DataSpans → Span
header_at None = no_span
header_at (Some spans) = span_if spans.header

-- the parts that a report may have: without a data coding scheme the alphabet is the 7-bit one
pub record ShowsParts (pid dcs : Option ℕ) (user : Option ReportData) (seen : ReportSeen)
    : Type 0 where
  pub has_pid : seen.has_pid ≡ bit (is_some pid)
  pub pid_is : seen.pid ≡ unwrap_or pid 0
  pub has_dcs : seen.has_dcs ≡ bit (is_some dcs)
  pub dcs_is : seen.dcs ≡ unwrap_or dcs 0
  pub has_data : seen.has_data ≡ bit (is_some user)
  pub length : seen.length ≡ length_of user
  pub alphabet : seen.alphabet ≡ alphabet_number (report_alphabet dcs)

-- TP-UD and its header, where they lie in the octets
pub record ShowsData (headed : Bool) (user : Option ReportData) (octets : List ℕ)
    (seen : ReportSeen) : Type 0 where
  pub has_header : seen.has_header ≡ bit headed
  pub spans : Option DataSpans
  pub lie : DataLieIf headed user octets seen.used spans
  pub «data» : seen.«data» ≡ data_at spans
  pub header : seen.header ≡ header_at spans

-- a report, with its failure cause and its stamp where it has them
pub record ShowsReport {C S : Type 0} (cause : Option ℕ) (stamp : Option (List ℕ))
    (value : ReportValue C S) (octets : List ℕ) (seen : ReportSeen) : Type 0 where
  pub has_cause : seen.has_cause ≡ bit (is_some cause)
  pub cause_is : seen.cause ≡ unwrap_or cause 0
  pub has_stamp : seen.has_stamp ≡ bit (is_some stamp)
  pub stamp_is : IfSome stamp (λ there. seen.stamp.octets ≡ there)
  pub parts : ShowsParts value.pid value.dcs value.user seen
  pub user : ShowsData value.has_header value.user octets seen

abbrev pub ShowsDeliverAck : DeliverAckValue → List ℕ → ReportSeen → Type 0
ShowsDeliverAck = ShowsReport None None

abbrev pub ShowsDeliverError : DeliverErrorValue → List ℕ → ReportSeen → Type 0
ShowsDeliverError value = ShowsReport (Some value.cause) None value

abbrev pub ShowsSubmitAck : SubmitAckValue → List ℕ → ReportSeen → Type 0
ShowsSubmitAck value = ShowsReport None (Some value.stamp) value

abbrev pub ShowsSubmitError : SubmitErrorValue → List ℕ → ReportSeen → Type 0
ShowsSubmitError value = ShowsReport (Some value.cause) (Some value.stamp) value
