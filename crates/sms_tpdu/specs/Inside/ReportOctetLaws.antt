-- A reader may pass this by: lemmas, for the proofs of this crate and of those above it.
--
-- The first octet of a report is a lawful field, and what is written is read back.
use Rattle.std.proofs.Common.{Bool, true, false, refl, lit<}
use Rattle.sms_field.specs.Field.{octet_by, IsLawful}
use Rattle.sms_field.specs.Inside.SingleLaws.{octet_by_lawful, apart_then}
use Rattle.sms_tpdu.specs.Report.Octet.{submit_report, deliver_report, submit_report_octet, deliver_report_octet, on_submission, on_delivery, IsReportOctet, AreFirstOctetLaws}
use Rattle.sms_tpdu.specs.declared.fault.UnitFault.TheVariants.{Short, WrongType}

pub submit_report_lawful : IsLawful Short (octet_by Short submit_report)
submit_report_lawful = octet_by_lawful Short submit_report (1, lit< tt, _, refl) (λ o. apart_then Short _ _ WrongType (λ e. cc))

pub deliver_report_lawful : IsLawful Short (octet_by Short deliver_report)
deliver_report_lawful = octet_by_lawful Short deliver_report (0, lit< tt, _, refl) (λ o. apart_then Short _ _ WrongType (λ e. cc))

-- ---- what is written

pub submit_report_again : (header : Bool) → IsReportOctet submit_report header (submit_report_octet header)
submit_report_again true = record { again = refl; small = lit< tt }
submit_report_again false = record { again = refl; small = lit< tt }

pub deliver_report_again : (header : Bool) → IsReportOctet deliver_report header (deliver_report_octet header)
deliver_report_again true = record { again = refl; small = lit< tt }
deliver_report_again false = record { again = refl; small = lit< tt }

-- ---- by what the report is on

pub on_submission_laws : AreFirstOctetLaws on_submission
on_submission_laws = record { lawful = submit_report_lawful; again = submit_report_again }

pub on_delivery_laws : AreFirstOctetLaws on_delivery
on_delivery_laws = record { lawful = deliver_report_lawful; again = deliver_report_again }
