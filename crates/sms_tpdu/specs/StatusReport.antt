-- SMS-STATUS-REPORT (3GPP TS 23.040, 9.2.2.3).
pub mod Flags
pub mod Status
pub mod Spans
use Rattle.std.specs.Prelude.{◌≡◌, ℕ, List, ◌∷◌, ◌++◌, ◌<◌, Bool, Option}
use Rattle.sms_field.specs.Field.{Field, ◌>>=◌, octet, octet_by, map_reason}
use Rattle.sms_field.specs.Field.Mapped.{mapped}
use Rattle.sms_field.specs.Address.{address, address_octets}
use Rattle.sms_field.specs.Address.Value.{AddressValue, HasSpelling}
use Rattle.sms_field.specs.Time.Stamp.{IsStamp}
use Rattle.sms_field.specs.Time.Stamp as time
use Rattle.sms_tpdu.specs.Fault.{unit_fault}
use Rattle.sms_tpdu.specs.Report.AnnouncedParts.{Parts, AreParts}
use Rattle.sms_tpdu.specs.Report.Indicated.{optional_parts, optional_parts_octets, MayFollowParts}
use Rattle.sms_tpdu.specs.StatusReport.Flags.{status_report_flags, status_report_octet}
use Rattle.sms_tpdu.specs.declared.report.parts.ReportData.{ReportData}
use Rattle.sms_tpdu.specs.declared.status_report.flags.StatusReportFlags.{StatusReportFlags}
use Rattle.sms_tpdu.specs.declared.fault.UnitFault.{UnitFault}
use Rattle.sms_tpdu.specs.declared.fault.UnitFault.TheVariants.{Short}

pub record StatusReportValue : Type 0 where
  -- TP-MMS
  pub more : Bool
  -- TP-LP
  pub looped : Bool
  -- TP-SRQ
  pub qualifier : Bool
  -- TP-UDHI
  pub has_header : Bool
  -- TP-MR
  pub reference : ℕ
  -- TP-RA
  pub recipient : AddressValue
  -- TP-SCTS
  pub stamp : List ℕ
  -- TP-DT
  pub discharged : List ℕ
  -- TP-ST
  pub status : ℕ
  -- TP-PID
  pub pid : Option ℕ
  -- TP-DCS
  pub dcs : Option ℕ
  -- TP-UDL and TP-UD
  pub user : Option ReportData

abbrev pub flags_in : StatusReportValue → StatusReportFlags
flags_in r =
    record {
      more = r.more;
      looped = r.looped;
      qualifier = r.qualifier;
      header = r.has_header;
    }

abbrev pub parts_in : StatusReportValue → Parts
parts_in r = record { pid = r.pid; dcs = r.dcs; user = r.user }

-- what has a spelling
pub record IsStatusReport (r : StatusReportValue) : Type 0 where
  pub reference : r.reference < 256
  pub recipient : HasSpelling r.recipient
  pub stamp : IsStamp r.stamp
  pub discharged : IsStamp r.discharged
  pub status : r.status < 256
  pub parts : AreParts (parts_in r)

abbrev pub report_of : StatusReportFlags → ℕ → AddressValue → List ℕ → List ℕ → ℕ → Parts
    → StatusReportValue
report_of flags reference recipient stamp discharged status those = record {
  more = flags.more;
  looped = flags.looped;
  qualifier = flags.qualifier;
  has_header = flags.header;
  reference = reference;
  recipient = recipient;
  stamp = stamp;
  discharged = discharged;
  status = status;
  pid = those.pid;
  dcs = those.dcs;
  user = those.user;
}

unfoldable pub status_report : Field StatusReportValue UnitFault
status_report = do
  -- TP-MTI, TP-MMS, TP-LP, TP-SRQ and TP-UDHI; another TP-MTI: WrongType
  flags ← octet_by Short status_report_flags
  -- TP-MR
  reference ← octet Short
  -- TP-RA
  recipient ← map_reason unit_fault address
  -- TP-SCTS
  stamp ← time.stamp Short
  -- TP-DT
  discharged ← time.stamp Short
  -- TP-ST
  status ← octet Short
  -- where another octet follows, TP-PI, and TP-PID, TP-DCS, TP-UDL and TP-UD, where they are there
  mapped (report_of flags reference recipient stamp discharged status) optional_parts

-- how it is written
abbrev pub status_report_octets : StatusReportValue → List ℕ
status_report_octets r =
    status_report_octet (flags_in r) ∷ r.reference
    ∷ (address_octets r.recipient ++ (r.stamp ++ (r.discharged
    ++ (r.status ∷ optional_parts_octets (parts_in r)))))

abbrev pub SpellsStatusReport : StatusReportValue → List ℕ → Type 0
SpellsStatusReport r octets = IsStatusReport r × (octets ≡ status_report_octets r)

-- after a report without parts nothing follows: it would be read as TP-PI
abbrev pub MayFollow : StatusReportValue → List ℕ → Type 0
MayFollow r more = MayFollowParts (parts_in r) more
