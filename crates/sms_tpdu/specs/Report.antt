-- A report (3GPP TS 23.040, 9.2.2.1a and 9.2.2.2a): SMS-DELIVER-REPORT and SMS-SUBMIT-REPORT, each
-- under an acknowledgement and under an error of the relay.
pub mod Octet
pub mod ParameterIndicator
pub mod AnnouncedParts
pub mod Kind
pub mod Indicated
pub mod Text
use Rattle.std.specs.Prelude.{ℕ, Bool, List, ◌∷◌, ◌++◌, Option}
use Rattle.sms_field.specs.Field.{Field, ◌>>=◌, always, octet_by}
use Rattle.sms_tpdu.specs.UnitLaws.{IsSpelling}
use Rattle.sms_tpdu.specs.Report.Octet.{FirstOctet, on_delivery, on_submission}
use Rattle.sms_tpdu.specs.Report.ParameterIndicator.{indicator, indicator_octet}
use Rattle.sms_tpdu.specs.Report.AnnouncedParts.{Parts, parts, indicator_of, AreParts, parts_octets}
use Rattle.sms_tpdu.specs.Report.Kind.{KindPart, no_part, failure_cause, centre_stamp}
use Rattle.sms_tpdu.specs.declared.report.parts.ReportData.{ReportData}
use Rattle.sms_tpdu.specs.declared.fault.UnitFault.{UnitFault}
use Rattle.sms_tpdu.specs.declared.fault.UnitFault.TheVariants.{Short}

pub record ReportValue (C S : Type 0) : Type 0 where
  -- TP-UDHI
  pub has_header : Bool
  -- TP-FCS, where it stands
  pub cause : C
  -- TP-SCTS, where it stands
  pub stamp : S
  -- TP-PID
  pub pid : Option ℕ
  -- TP-DCS
  pub dcs : Option ℕ
  -- TP-UDL and TP-UD
  pub user : Option ReportData

abbrev pub parts_in : {C S : Type 0} → ReportValue C S → Parts
parts_in r = record { pid = r.pid; dcs = r.dcs; user = r.user }

-- what has a spelling
pub record IsReport {C S : Type 0} (for_cause : KindPart C) (for_stamp : KindPart S)
    (r : ReportValue C S) : Type 0 where
  pub cause : for_cause.is r.cause
  pub stamp : for_stamp.is r.stamp
  pub parts : AreParts (parts_in r)

unfoldable pub report : {C S : Type 0} → FirstOctet → KindPart C → KindPart S
    → Field (ReportValue C S) UnitFault
report first for_cause for_stamp = do
  -- TP-MTI and TP-UDHI; another TP-MTI: WrongType
  header ← octet_by Short first.meaning
  -- TP-FCS
  cause ← for_cause.field
  -- TP-PI
  there ← indicator
  -- TP-SCTS
  stamp ← for_stamp.field
  -- TP-PID, TP-DCS, TP-UDL and TP-UD, where they are there
  those ← parts there
  always (record {
    has_header = header;
    cause = cause;
    stamp = stamp;
    pid = those.pid;
    dcs = those.dcs;
    user = those.user;
  })

-- how it is written
abbrev pub report_octets : {C S : Type 0} → FirstOctet → KindPart C → KindPart S → ReportValue C S
    → List ℕ
report_octets first cause stamp r =
    first.octet r.has_header ∷ (cause.octets r.cause ++ indicator_octet (indicator_of (parts_in r))
    ∷ (stamp.octets r.stamp ++ parts_octets (parts_in r)))

abbrev pub SpellsReport : {C S : Type 0} → FirstOctet → KindPart C → KindPart S → ReportValue C S
    → List ℕ → Type 0
SpellsReport first cause stamp = IsSpelling (IsReport cause stamp) (report_octets first cause stamp)

-- ---- SMS-DELIVER-REPORT for RP-ACK: the phone has taken a delivery

abbrev pub DeliverAckValue : Type 0
DeliverAckValue = ReportValue (Unit {0}) (Unit {0})

abbrev pub IsDeliverAck : DeliverAckValue → Type 0
IsDeliverAck = IsReport no_part no_part

abbrev pub deliver_ack : Field DeliverAckValue UnitFault
deliver_ack = report on_delivery no_part no_part

abbrev pub SpellsDeliverAck : DeliverAckValue → List ℕ → Type 0
SpellsDeliverAck = SpellsReport on_delivery no_part no_part

-- ---- SMS-DELIVER-REPORT for RP-ERROR: the phone has refused a delivery

abbrev pub DeliverErrorValue : Type 0
DeliverErrorValue = ReportValue ℕ (Unit {0})

abbrev pub IsDeliverError : DeliverErrorValue → Type 0
IsDeliverError = IsReport failure_cause no_part

abbrev pub deliver_error : Field DeliverErrorValue UnitFault
deliver_error = report on_delivery failure_cause no_part

abbrev pub SpellsDeliverError : DeliverErrorValue → List ℕ → Type 0
SpellsDeliverError = SpellsReport on_delivery failure_cause no_part

-- ---- SMS-SUBMIT-REPORT for RP-ACK: the service centre has taken a submission

abbrev pub SubmitAckValue : Type 0
SubmitAckValue = ReportValue (Unit {0}) (List ℕ)

abbrev pub IsSubmitAck : SubmitAckValue → Type 0
IsSubmitAck = IsReport no_part centre_stamp

abbrev pub submit_ack : Field SubmitAckValue UnitFault
submit_ack = report on_submission no_part centre_stamp

abbrev pub SpellsSubmitAck : SubmitAckValue → List ℕ → Type 0
SpellsSubmitAck = SpellsReport on_submission no_part centre_stamp

-- ---- SMS-SUBMIT-REPORT for RP-ERROR: the service centre has refused a submission

abbrev pub SubmitErrorValue : Type 0
SubmitErrorValue = ReportValue ℕ (List ℕ)

abbrev pub IsSubmitError : SubmitErrorValue → Type 0
IsSubmitError = IsReport failure_cause centre_stamp

abbrev pub submit_error : Field SubmitErrorValue UnitFault
submit_error = report on_submission failure_cause centre_stamp

abbrev pub SpellsSubmitError : SubmitErrorValue → List ℕ → Type 0
SpellsSubmitError = SpellsReport on_submission failure_cause centre_stamp
