-- The text of the data of a report, as C has seen them.
use Rattle.std.specs.Prelude.{ℕ, ◌==◌, ◌&&◌, Bool, nat_le, List, length, Option, Some, None, Result, Ok, Err, if◌then◌else◌}
use Rattle.sms_tpdu.specs.Report.AnnouncedParts.{report_alphabet}
use Rattle.sms_tpdu.specs.Report.Text.{text_of_data}
use Rattle.sms_tpdu.specs.UserData.Lengths.{octets_of_length}
use Rattle.sms_tpdu.specs.declared.report.parts.ReportData.{ReportData}
use Rattle.sms_tpdu.specs.declared.report.parts.TheConstants.{REPORT_DATA_MAX}
use Rattle.sms_c.specs.Lying.{lies_in}
use Rattle.sms_c.specs.Parts.{octets_at}
use Rattle.sms_c.specs.ReportGiven.{octet_given}
use Rattle.sms_c.specs.Writing.{is_set}
use Rattle.sms_c.specs.declared.report_text.DataSeen.{DataSeen}
use Rattle.sms_c.specs.declared.reading.report.ReportSeen.{ReportSeen}
use Rattle.sms_c.specs.declared.reading.status_report.StatusReportSeen.{StatusReportSeen}
use Rattle.sms_c.specs.declared.status.Failure.{Failure}
use Rattle.sms_c.specs.declared.status.Failure.TheVariants.{NotThere, OutOfRange}

-- TP-UD of a report or of a status report, with what tells how it is read
abbrev pub data_of_report : ReportSeen → DataSeen
data_of_report report =
    record {
      octets = report.«data»;
      length = report.length;
      has_header = report.has_header;
      has_dcs = report.has_dcs;
      dcs = report.dcs;
      is_there = report.has_data;
    }

abbrev pub data_of_status_report : StatusReportSeen → DataSeen
data_of_status_report report =
    record {
      octets = report.«data»;
      length = report.length;
      has_header = report.has_header;
      has_dcs = report.has_dcs;
      dcs = report.dcs;
      is_there = report.has_data;
    }

-- TP-DCS, where it is there
abbrev pub dcs_in : DataSeen → Option ℕ
dcs_in seen = octet_given seen.has_dcs seen.dcs

-- as many octets as TP-UDL counts (3GPP TS 23.040, 9.2.3.16), and not more than a report carries
abbrev pub are_counted : Option ℕ → ℕ → ℕ → Bool
are_counted dcs count size =
    (size == octets_of_length (report_alphabet dcs) count) && nat_le size REPORT_DATA_MAX

-- the data, where they are there and lie in the octets
abbrev pub data_in : List ℕ → DataSeen → Result ReportData Failure
data_in octets seen =
    if is_set seen.is_there
    then (if lies_in octets seen.octets
    then (if are_counted (dcs_in seen) seen.length (length (octets_at octets seen.octets))
    then Ok (record { length = seen.length; octets = octets_at octets seen.octets })
    else Err OutOfRange)
    else Err OutOfRange)
    else Err NotThere

abbrev pub there_or_not : Option (List ℕ) → Result (List ℕ) Failure
there_or_not None = Err NotThere
there_or_not (Some text) = Ok text

abbrev pub text_in : Bool → Option ℕ → Result ReportData Failure → Result (List ℕ) Failure
text_in headed dcs (Err why) = Err why
text_in headed dcs (Ok user) = there_or_not (text_of_data headed dcs user)

-- the text of the data (3GPP TS 23.040, 9.2.3.24), or why there is none
abbrev pub data_text : List ℕ → DataSeen → Result (List ℕ) Failure
data_text octets seen = text_in (is_set seen.has_header) (dcs_in seen) (data_in octets seen)
