-- The first octet of an SMS-STATUS-REPORT (3GPP TS 23.040, 9.2.2.3).
use Rattle.std.specs.Prelude.{ℕ, ◌+◌, ◌||◌, not, true, Result, Ok, Err, if◌then◌else◌}
use Rattle.sms_field.specs.Bit.{bit, weight}
use Rattle.sms_tpdu.specs.declared.status_report.flags.StatusReportFlags.{StatusReportFlags}
use Rattle.sms_tpdu.specs.declared.fault.UnitFault.{UnitFault}
use Rattle.sms_tpdu.specs.declared.fault.UnitFault.TheVariants.{WrongType}

-- bits 1 and 0 TP-MTI, which is 10; bit 2 TP-MMS, 0 where more messages wait; bit 3 TP-LP; bit 5
-- TP-SRQ; bit 6 TP-UDHI; bits 4 and 7 are free
abbrev pub status_report_flags : ℕ → Result StatusReportFlags UnitFault
status_report_flags octet =
    if bit 0 octet || not (bit 1 octet) then Err WrongType
    else Ok (record {
      more = not (bit 2 octet);
      looped = bit 3 octet;
      qualifier = bit 5 octet;
      header = bit 6 octet;
    })

-- as it is written: the free bits are 0
abbrev pub status_report_octet : StatusReportFlags → ℕ
status_report_octet flags =
    weight 1 true + weight 2 (not flags.more) + weight 3 flags.looped
    + weight 5 flags.qualifier + weight 6 flags.header
