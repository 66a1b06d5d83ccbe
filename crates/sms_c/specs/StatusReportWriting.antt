-- The status report that is written of what C gives (3GPP TS 23.040, 9.2.2.3).
use Rattle.std.specs.Prelude.{ℕ, List, Option, Result, Ok, Err, if◌then◌else◌}
use Rattle.sms_field.specs.Address.Value.{AddressValue}
use Rattle.sms_tpdu.specs.StatusReport.{StatusReportValue, status_report_octets}
use Rattle.sms_tpdu.specs.declared.report.parts.ReportData.{ReportData}
use Rattle.sms_c.specs.AddressGiven.{address_given}
use Rattle.sms_c.specs.Class.{are_spare}
use Rattle.sms_c.specs.ReportGiven.{octet_given, user_given}
use Rattle.sms_c.specs.Writing.{is_set}
use Rattle.sms_c.specs.declared.status_report_writing.StatusReportFields.{StatusReportFields}
use Rattle.sms_c.specs.declared.status.Failure.{Failure}
use Rattle.sms_c.specs.declared.status.Failure.TheVariants.{OutOfRange}

abbrev pub status_report_given : StatusReportFields → AddressValue → Option ReportData
    → StatusReportValue
status_report_given fields recipient user =
    record {
      more = is_set fields.more;
      looped = is_set fields.looped;
      qualifier = is_set fields.qualifier;
      has_header = is_set fields.has_header;
      reference = fields.reference;
      recipient = recipient;
      stamp = fields.stamp.octets;
      discharged = fields.discharged.octets;
      status = fields.status;
      pid = octet_given fields.has_pid fields.pid;
      dcs = octet_given fields.has_dcs fields.dcs;
      user = user;
    }

-- TP-UDL and TP-UD, or why they cannot stand; spare octets must be 0
abbrev pub user_of_status_report : StatusReportFields → List ℕ → Result (Option ReportData) Failure
user_of_status_report fields octets =
    if are_spare fields.spare
    then user_given (is_set fields.has_header) (octet_given fields.has_dcs fields.dcs)
    (is_set fields.has_data) fields.length octets
    else Err OutOfRange

abbrev pub with_recipient : StatusReportFields → Option ReportData → Result AddressValue Failure
    → Result (List ℕ) Failure
with_recipient fields user (Err why) = Err why
with_recipient fields user (Ok recipient) =
    Ok (status_report_octets (status_report_given fields recipient user))

abbrev pub with_user : StatusReportFields → List ℕ → Result (Option ReportData) Failure
    → Result (List ℕ) Failure
with_user fields recipient (Err why) = Err why
with_user fields recipient (Ok user) = with_recipient fields user (address_given recipient)

-- the octets of a status report with these fields, recipient and data, or why there is none
abbrev pub status_report_written : StatusReportFields → List ℕ → List ℕ → Result (List ℕ) Failure
status_report_written fields recipient octets =
    with_user fields recipient (user_of_status_report fields octets)
