-- The reports that are written of what C gives (3GPP TS 23.040, 9.2.2.1a and 9.2.2.2a).
use Rattle.std.specs.Prelude.{ℕ, List, Option, Result, Ok, Err, if◌then◌else◌}
use Rattle.sms_tpdu.specs.Report.Kind.{KindPart, no_part, failure_cause, centre_stamp}
use Rattle.sms_tpdu.specs.Report.Octet.{FirstOctet, on_delivery, on_submission}
use Rattle.sms_tpdu.specs.Report.{ReportValue, report_octets}
use Rattle.sms_tpdu.specs.declared.report.parts.ReportData.{ReportData}
use Rattle.sms_c.specs.Class.{are_spare}
use Rattle.sms_c.specs.ReportGiven.{octet_given, user_given}
use Rattle.sms_c.specs.Writing.{is_set}
use Rattle.sms_c.specs.declared.report_writing.ReportFields.{ReportFields}
use Rattle.sms_c.specs.declared.status.Failure.{Failure}
use Rattle.sms_c.specs.declared.status.Failure.TheVariants.{OutOfRange}

-- TP-UDL and TP-UD, or why they cannot stand; spare octets must be 0
abbrev pub user_of_report : ReportFields → List ℕ → Result (Option ReportData) Failure
user_of_report fields octets =
    if are_spare fields.spare
    then user_given (is_set fields.has_header) (octet_given fields.has_dcs fields.dcs)
    (is_set fields.has_data) fields.length octets
    else Err OutOfRange

abbrev pub report_given : {C S : Type 0} → ReportFields → C → S → Option ReportData
    → ReportValue C S
report_given fields cause stamp user =
    record {
      has_header = is_set fields.has_header;
      cause = cause;
      stamp = stamp;
      pid = octet_given fields.has_pid fields.pid;
      dcs = octet_given fields.has_dcs fields.dcs;
      user = user;
    }

-- the octets of a report with these fields and data, or why there is none
abbrev pub report_written : {C S : Type 0} → FirstOctet → KindPart C → KindPart S → ReportFields → C
    → S → Result (Option ReportData) Failure → Result (List ℕ) Failure
report_written first for_cause for_stamp fields cause stamp (Err why) = Err why
report_written first for_cause for_stamp fields cause stamp (Ok user) =
    Ok (report_octets first for_cause for_stamp (report_given fields cause stamp user))

-- ---- each of the four

-- SMS-DELIVER-REPORT for RP-ACK
abbrev pub deliver_ack_written : ReportFields → List ℕ → Result (List ℕ) Failure
deliver_ack_written fields octets =
    report_written on_delivery no_part no_part fields tt tt (user_of_report fields octets)

-- SMS-DELIVER-REPORT for RP-ERROR
abbrev pub deliver_error_written : ReportFields → List ℕ → Result (List ℕ) Failure
deliver_error_written fields octets =
    report_written on_delivery failure_cause no_part fields fields.cause tt
    (user_of_report fields octets)

-- SMS-SUBMIT-REPORT for RP-ACK
abbrev pub submit_ack_written : ReportFields → List ℕ → Result (List ℕ) Failure
submit_ack_written fields octets =
    report_written on_submission no_part centre_stamp fields tt fields.stamp.octets
    (user_of_report fields octets)

-- SMS-SUBMIT-REPORT for RP-ERROR
abbrev pub submit_error_written : ReportFields → List ℕ → Result (List ℕ) Failure
submit_error_written fields octets =
    report_written on_submission failure_cause centre_stamp fields fields.cause fields.stamp.octets
    (user_of_report fields octets)
