-- The first octet of a report (3GPP TS 23.040, 9.2.2.1a and 9.2.2.2a): its type, and whether the
-- data begin with a header.
use Rattle.std.specs.Prelude.{◌≡◌, ℕ, ◌+◌, ◌<◌, ◌||◌, Bool, true, not, Result, Ok, Err, if◌then◌else◌}
use Rattle.sms_field.specs.Bit.{bit, weight}
use Rattle.sms_field.specs.Field.{octet_by, IsLawful}
use Rattle.sms_tpdu.specs.declared.fault.UnitFault.{UnitFault}
use Rattle.sms_tpdu.specs.declared.fault.UnitFault.TheVariants.{Short, WrongType}

-- of a report on a submission bits 1 and 0, TP-MTI, are 01; bit 6 TP-UDHI; the others are free
abbrev pub submit_report : ℕ → Result Bool UnitFault
submit_report octet = if bit 1 octet || not (bit 0 octet) then Err WrongType else Ok (bit 6 octet)

-- of a report on a delivery TP-MTI is 00
abbrev pub deliver_report : ℕ → Result Bool UnitFault
deliver_report octet = if bit 0 octet || bit 1 octet then Err WrongType else Ok (bit 6 octet)

-- as they are written: the free bits are 0
abbrev pub submit_report_octet : Bool → ℕ
submit_report_octet header = weight 0 true + weight 6 header

abbrev pub deliver_report_octet : Bool → ℕ
deliver_report_octet header = weight 6 header

-- ---- by what the report is on

pub record FirstOctet : Type 0 where
  -- what an octet says
  pub meaning : ℕ → Result Bool UnitFault
  -- how it is written
  pub octet : Bool → ℕ

abbrev pub on_submission : FirstOctet
on_submission = record { meaning = submit_report; octet = submit_report_octet }

abbrev pub on_delivery : FirstOctet
on_delivery = record { meaning = deliver_report; octet = deliver_report_octet }

-- ---- it is a lawful field, and what is written is read back

pub record IsReportOctet (meaning : ℕ → Result Bool UnitFault) (header : Bool)
    (octet : ℕ) : Type 0 where
  pub again : meaning octet ≡ Ok header
  pub small : octet < 256

pub record AreFirstOctetLaws (first : FirstOctet) : Type 0 where
  pub lawful : IsLawful Short (octet_by Short first.meaning)
  pub again : (header : Bool) → IsReportOctet first.meaning header (first.octet header)
