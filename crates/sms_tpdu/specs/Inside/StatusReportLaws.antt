-- A reader may pass this by: lemmas, for the proofs of this crate and of those above it.
--
-- An SMS-STATUS-REPORT is a lawful field, and what is written is read back.
use Rattle.std.proofs.Common.{◌≡◌, ℕ, true, false, not, List, [], ◌∷◌, ◌++◌, Ok, refl, sym, subst, lit<, arith}
use Rattle.sms_text.specs.Octets.{IsOctets}
use Rattle.sms_field.specs.Inside.BitLaws.{AreBits, summed_bits}
use Rattle.sms_field.specs.Inside.ChainReading.{chained}
use Rattle.sms_field.specs.Field.{IsLawful}
use Rattle.sms_field.specs.Address.{address, address_octets}
use Rattle.sms_field.specs.declared.fault.FieldFault.TheVariants as fields
use Rattle.sms_field.specs.Inside.ChainLaws.{chain_lawful}
use Rattle.sms_field.specs.Inside.MappedLaws.{mapped_lawful}
use Rattle.sms_field.specs.Inside.OctetLists.{octets-append}
use Rattle.sms_field.specs.Inside.SingleLaws.{octet_self, octet_lawful, octet_by_self, octet_by_lawful, octets_of_self, octets_of_lawful, map_reason_lawful, apart_then}
use Rattle.sms_field.specs.Inside.AddressLaws.{address_self, address_lawful}
use Rattle.sms_field.specs.Inside.AddressSpelling.{address_again, address_are_octets}
use Rattle.sms_tpdu.specs.UnitLaws.{AreUnitLaws}
use Rattle.sms_tpdu.specs.Fault.{unit_fault}
use Rattle.sms_tpdu.specs.Inside.FaultLaws.{fault_apart}
use Rattle.sms_tpdu.specs.Inside.DeliverLaws.{twice}
use Rattle.sms_tpdu.specs.Report.Indicated.{optional_parts, optional_parts_octets}
use Rattle.sms_tpdu.specs.Inside.IndicatedLaws.{optional_parts_lawful, optional_parts_again, optional_parts_are_octets}
use Rattle.sms_tpdu.specs.StatusReport.Flags.{status_report_flags, status_report_octet}
use Rattle.sms_tpdu.specs.StatusReport.{StatusReportValue, IsStatusReport, status_report, flags_in, parts_in, status_report_octets, SpellsStatusReport, MayFollow}
use Rattle.sms_tpdu.specs.declared.status_report.flags.StatusReportFlags.{StatusReportFlags}
use Rattle.sms_tpdu.specs.declared.fault.UnitFault.TheVariants.{Short, WrongType}

status_report_lawful : IsLawful Short status_report
unfolding status_report
status_report_lawful =
    chain_lawful _ _ Short (octet_by_self Short status_report_flags) (octet_by_lawful Short status_report_flags (2, lit< tt, _, refl) (λ o. apart_then Short _ _ WrongType (λ e. cc))) (λ flags _ _ _.
    chain_lawful _ _ Short (octet_self Short) (octet_lawful Short) (λ reference _ _ _.
    chain_lawful _ _ Short address_self (map_reason_lawful fields.Short unit_fault fault_apart address address_lawful) (λ recipient _ _ _.
    chain_lawful _ _ Short (octets_of_self Short 7) (octets_of_lawful Short 7) (λ stamp _ _ _.
    chain_lawful _ _ Short (octets_of_self Short 7) (octets_of_lawful Short 7) (λ discharged _ _ _.
    chain_lawful _ _ Short (octet_self Short) (octet_lawful Short) (λ status _ _ _.
    mapped_lawful Short _ optional_parts optional_parts_lawful))))))

-- ---- what is written

flags_bits : (f : StatusReportFlags) → AreBits false true (not f.more) f.looped false f.qualifier f.header false (status_report_octet f)
flags_bits f = summed_bits false true (not f.more) f.looped false f.qualifier f.header false (status_report_octet f) (omega arith)

flags_again : (f : StatusReportFlags) → status_report_flags (status_report_octet f) ≡ Ok f
flags_again f =
    let bits = flags_bits f in
    rw (bits.bit_0, bits.bit_1, bits.bit_2, bits.bit_3, bits.bit_5, bits.bit_6, twice f.more) refl

status_report_again : (r : StatusReportValue) (rest : List ℕ) → IsStatusReport r → MayFollow r rest → status_report.reads r (status_report_octets r) rest
unfolding status_report
status_report_again r rest fits follows =
    chained _ _ (flags_in r) r (status_report_octet (flags_in r) ∷ []) _ rest (status_report_octet (flags_in r), refl, flags_again (flags_in r)) (
    chained _ _ r.reference r (r.reference ∷ []) _ rest refl (
    chained _ _ r.recipient r (address_octets r.recipient) _ rest (address_again r.recipient _ fits.recipient) (
    chained _ _ r.stamp r r.stamp _ rest (refl, fits.stamp.0) (
    chained _ _ r.discharged r r.discharged _ rest (refl, fits.discharged.0) (
    chained _ _ r.status r (r.status ∷ []) _ rest refl
    (parts_in r, optional_parts_again (parts_in r) rest fits.parts follows, refl))))))

status_report_are_octets : (r : StatusReportValue) → IsStatusReport r → IsOctets (status_report_octets r)
status_report_are_octets r fits =
    let parts : IsOctets (r.status ∷ optional_parts_octets (parts_in r)) = (fits.status, optional_parts_are_octets (parts_in r) fits.parts) in
    let times : IsOctets (r.stamp ++ (r.discharged ++ (r.status ∷ optional_parts_octets (parts_in r)))) = octets-append r.stamp _ fits.stamp.1 (octets-append r.discharged _ fits.discharged.1 parts) in
    ((flags_bits (flags_in r)).small, (fits.reference, octets-append (address_octets r.recipient) _ (address_are_octets r.recipient fits.recipient) times))

pub status_report_laws : AreUnitLaws Short status_report SpellsStatusReport MayFollow
status_report_laws = record {
  lawful = status_report_lawful;
  octets = λ r l s. subst IsOctets (sym s.1) (status_report_are_octets r s.0);
  again = λ r l more s follows. subst (λ (k : List ℕ). status_report.reads r k more) (sym s.1) (status_report_again r more s.0 follows);
}
