-- An SMS-STATUS-REPORT in a record (3GPP TS 23.040, 9.2.2.3). After TP-ST an FF is padding, and no
-- TP-PI.
use Rattle.std.specs.Prelude.{ℕ, Bool, true, false, ◌==◌, Result, Ok}
use Rattle.sms_field.specs.Field.{Field, ◌>>=◌, always, octet, octet_by, map_reason}
use Rattle.sms_field.specs.Field.Mapped.{mapped}
use Rattle.sms_field.specs.Address.{address}
use Rattle.sms_field.specs.Time.Stamp as time
use Rattle.sms_field.specs.Address.Value.{HasSpelling}
use Rattle.sms_field.specs.Time.Stamp.{IsStamp}
use Rattle.std.specs.Prelude.{◌<◌}
use Rattle.sms_tpdu.specs.Fault.{unit_fault}
use Rattle.sms_tpdu.specs.IfMore.{if_more}
use Rattle.sms_tpdu.specs.Report.AnnouncedParts.{Parts}
use Rattle.sms_tpdu.specs.Report.Indicated.{indicated_parts, no_parts}
use Rattle.sms_tpdu.specs.StatusReport.Flags.{status_report_flags}
use Rattle.sms_tpdu.specs.StatusReport.{StatusReportValue, flags_in, report_of}
use Rattle.sms_tpdu.specs.declared.fault.UnitFault.{UnitFault}
use Rattle.sms_tpdu.specs.declared.fault.UnitFault.TheVariants as units
use Rattle.sms_card.specs.ByFirst.{by_first}
use Rattle.sms_card.specs.Fault.{record_fault}
use Rattle.sms_card.specs.Padding.{padded, padding}
use Rattle.sms_card.specs.declared.fault.RecordFault.{RecordFault}
use Rattle.sms_card.specs.declared.fault.RecordFault.TheVariants.{Short}
use Rattle.sms_card.specs.declared.padding.TheConstants.{PAD}
use Rattle.sms_card.specs.declared.report.ReportFront.{ReportFront}

-- what stands in every report, up to TP-ST
unfoldable pub report_front : Field ReportFront UnitFault
report_front = do
  -- TP-MTI, TP-MMS, TP-LP, TP-SRQ and TP-UDHI; another TP-MTI: WrongType
  flags ← octet_by units.Short status_report_flags
  -- TP-MR
  reference ← octet units.Short
  -- TP-RA
  recipient ← map_reason unit_fault address
  -- TP-SCTS
  stamp ← time.stamp units.Short
  -- TP-DT
  discharged ← time.stamp units.Short
  -- TP-ST
  status ← octet units.Short
  always (record {
    flags = flags;
    reference = reference;
    recipient = recipient;
    stamp = stamp;
    discharged = discharged;
    status = status;
  })

-- what has a spelling
pub record IsFront (f : ReportFront) : Type 0 where
  pub reference : f.reference < 256
  pub recipient : HasSpelling f.recipient
  pub stamp : IsStamp f.stamp
  pub discharged : IsStamp f.discharged
  pub status : f.status < 256

abbrev pub front_of : StatusReportValue → ReportFront
front_of r = record {
  flags = flags_in r;
  reference = r.reference;
  recipient = r.recipient;
  stamp = r.stamp;
  discharged = r.discharged;
  status = r.status;
}

abbrev pub report_with : ReportFront → Parts → StatusReportValue
report_with f those = report_of f.flags f.reference f.recipient f.stamp f.discharged f.status those

-- whether the octet after TP-ST is padding
abbrev pub is_pad : ℕ → Result Bool RecordFault
is_pad octet = Ok (octet == PAD)

-- FF to the end; or TP-PI, TP-PID, TP-DCS, TP-UDL and TP-UD, where they are there, and FF to the end
unfoldable pub end_of : Bool → Field Parts RecordFault
end_of true = mapped (λ (filled : Unit {0}). no_parts) padding
end_of false = padded (λ (those : Parts). those) (map_reason record_fault indicated_parts)

-- no octet is no part
abbrev pub report_end : Field Parts RecordFault
report_end = if_more no_parts (by_first Short is_pad end_of)

unfoldable pub stored_report : Field StatusReportValue RecordFault
stored_report = do
  front ← map_reason record_fault report_front
  mapped (report_with front) report_end
