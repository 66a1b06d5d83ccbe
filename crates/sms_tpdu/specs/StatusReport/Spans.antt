-- Where the parts of an SMS-STATUS-REPORT lie in its octets (3GPP TS 23.040, 9.2.2.3).
use Rattle.std.specs.Prelude.{◌≡◌, ℕ, List}
use Rattle.sms_field.specs.Address.{address}
use Rattle.sms_field.specs.Reading.Lies.{LiesAt}
use Rattle.sms_tpdu.specs.DataSpans.{DataLieIf}
use Rattle.sms_tpdu.specs.StatusReport.{StatusReportValue}
use Rattle.sms_tpdu.specs.declared.status_report.spans.StatusReportSpans.{StatusReportSpans}

-- of a report that was read at the front of the input, in so many octets
pub record StatusReportLies (r : StatusReportValue) (input : List ℕ) (used : ℕ)
    (spans : StatusReportSpans) : Type 0 where
  -- TP-RA, after the first octet and TP-MR
  pub begins : spans.recipient.offset ≡ 2
  pub recipient : LiesAt address r.recipient input spans.recipient
  -- TP-UD, where it is there
  pub user : DataLieIf r.has_header r.user input used spans.user
