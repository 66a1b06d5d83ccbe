-- A reader may pass this by: lemmas, for the proofs of this crate and of those above it.
--
-- A report is a lawful field, and what is written is read back.
use Rattle.std.proofs.Common.{ℕ, List, [], ◌∷◌, refl}
use Rattle.sms_text.specs.Octets.{IsOctets}
use Rattle.sms_field.specs.Field.{IsLawful}
use Rattle.sms_field.specs.Inside.ChainLaws.{chain_lawful}
use Rattle.sms_field.specs.Inside.ChainReading.{chained, ended}
use Rattle.sms_field.specs.Inside.OctetLists.{octets-append}
use Rattle.sms_field.specs.Inside.SingleLaws.{always_lawful, octet_by_self}
use Rattle.sms_tpdu.specs.UnitLaws.{AreUnitLaws, laws_by}
use Rattle.sms_tpdu.specs.Report.Octet.{FirstOctet, on_submission, on_delivery, AreFirstOctetLaws}
use Rattle.sms_tpdu.specs.Inside.ReportOctetLaws.{on_submission_laws, on_delivery_laws}
use Rattle.sms_tpdu.specs.Report.ParameterIndicator.{indicator_octet}
use Rattle.sms_tpdu.specs.Inside.ParameterIndicatorLaws.{indicator_self, indicator_lawful, indicator_is, indicator_again}
use Rattle.sms_tpdu.specs.Report.AnnouncedParts.{indicator_of, parts_octets}
use Rattle.sms_tpdu.specs.Inside.AnnouncedPartsLaws.{parts_self, parts_lawful, parts_again, parts_are_octets}
use Rattle.sms_tpdu.specs.Report.Kind.{KindPart, AreKindPartLaws, no_part, failure_cause, centre_stamp}
use Rattle.sms_tpdu.specs.Inside.ReportKindLaws.{no_part_laws, failure_cause_laws, centre_stamp_laws}
use Rattle.sms_tpdu.specs.Report.{ReportValue, parts_in, IsReport, report, report_octets, SpellsReport, deliver_ack, deliver_error, submit_ack, submit_error, SpellsDeliverAck, SpellsDeliverError, SpellsSubmitAck, SpellsSubmitError}
use Rattle.sms_tpdu.specs.declared.fault.UnitFault.TheVariants.{Short}

module _ {C S : Type 0} (first : FirstOctet) (cause : KindPart C) (stamp : KindPart S) (of_first : AreFirstOctetLaws first) (of_cause : AreKindPartLaws cause) (of_stamp : AreKindPartLaws stamp) where
  pub report_lawful : IsLawful Short (report first cause stamp)
  unfolding report
  report_lawful =
      chain_lawful _ _ Short (octet_by_self Short first.meaning) of_first.lawful (λ header _ _ _.
      chain_lawful _ _ Short of_cause.alone of_cause.lawful (λ why _ _ _.
      chain_lawful _ _ Short indicator_self indicator_lawful (λ there _ _ _.
      chain_lawful _ _ Short of_stamp.alone of_stamp.lawful (λ time _ _ _.
      chain_lawful _ _ Short (parts_self there) (parts_lawful there) (λ those _ _ _.
      always_lawful Short _)))))

  -- ---- what is written

  report_again : (r : ReportValue C S) (rest : List ℕ) → IsReport cause stamp r → (report first cause stamp).reads r (report_octets first cause stamp r) rest
  unfolding report
  report_again r rest fits =
      let there = indicator_of (parts_in r) in
      chained _ _ r.has_header r (first.octet r.has_header ∷ []) _ rest (first.octet r.has_header, refl, (of_first.again r.has_header).again) (
      chained _ _ r.cause r (cause.octets r.cause) _ rest (of_cause.again r.cause _ fits.cause) (
      chained _ _ there r (indicator_octet there ∷ []) _ rest (indicator_again there _) (
      chained _ _ r.stamp r (stamp.octets r.stamp) _ rest (of_stamp.again r.stamp _ fits.stamp) (
      ended _ _ (parts_in r) r (parts_octets (parts_in r)) rest (parts_again (parts_in r) rest fits.parts)
      (refl, refl)))))

  report_is_octets : (r : ReportValue C S) → IsReport cause stamp r → IsOctets (report_octets first cause stamp r)
  report_is_octets r fits = ((of_first.again r.has_header).small, octets-append (cause.octets r.cause) _ (of_cause.octets r.cause fits.cause) ((indicator_is (indicator_of (parts_in r))).small, octets-append (stamp.octets r.stamp) _ (of_stamp.octets r.stamp fits.stamp) (parts_are_octets (parts_in r) fits.parts)))

  pub report_laws : AreUnitLaws Short (report first cause stamp) (SpellsReport first cause stamp) (λ _ _. Unit {0})
  report_laws = laws_by Short (report first cause stamp) (IsReport cause stamp) (report_octets first cause stamp) report_lawful report_is_octets report_again

-- ---- the four

pub deliver_ack_laws : AreUnitLaws Short deliver_ack SpellsDeliverAck (λ _ _. Unit {0})
deliver_ack_laws = report_laws on_delivery no_part no_part on_delivery_laws no_part_laws no_part_laws

pub deliver_ack_lawful : IsLawful Short deliver_ack
deliver_ack_lawful = deliver_ack_laws.lawful

pub deliver_error_laws : AreUnitLaws Short deliver_error SpellsDeliverError (λ _ _. Unit {0})
deliver_error_laws = report_laws on_delivery failure_cause no_part on_delivery_laws failure_cause_laws no_part_laws

pub deliver_error_lawful : IsLawful Short deliver_error
deliver_error_lawful = deliver_error_laws.lawful

pub submit_ack_laws : AreUnitLaws Short submit_ack SpellsSubmitAck (λ _ _. Unit {0})
submit_ack_laws = report_laws on_submission no_part centre_stamp on_submission_laws no_part_laws centre_stamp_laws

pub submit_ack_lawful : IsLawful Short submit_ack
submit_ack_lawful = submit_ack_laws.lawful

pub submit_error_laws : AreUnitLaws Short submit_error SpellsSubmitError (λ _ _. Unit {0})
submit_error_laws = report_laws on_submission failure_cause centre_stamp on_submission_laws failure_cause_laws centre_stamp_laws

pub submit_error_lawful : IsLawful Short submit_error
submit_error_lawful = submit_error_laws.lawful
