-- A reader may pass this by: lemmas, for the proofs of this crate and of those above it.
--
-- A status report in a record is a lawful field, and what is written is read back.
use Rattle.std.proofs.Common.{◌≡◌, ℕ, ◌+◌, ◌||◌, ◌==◌, Bool, true, false, not, cond, List, [], ◌∷◌, ◌++◌, Option, Some, None, is_some, Ok, Err, refl, sym, ap, subst, ◌∙◌, lit<, arith, append_assoc, inl, inr}
use Rattle.sms_text.specs.Octets.{IsOctets}
use Rattle.sms_field.specs.Bit.{bit, weight}
use Rattle.sms_field.specs.Field.{IsLawful, IsSelfContained, CanContinue, map_reason}
use Rattle.sms_field.specs.Address.{address, address_octets}
use Rattle.sms_field.specs.Inside.AddressLaws.{address_self, address_lawful}
use Rattle.sms_field.specs.Inside.AddressSpelling.{address_again}
use Rattle.sms_field.specs.Inside.BitLaws.{AreBits, summed_bits}
use Rattle.sms_field.specs.Inside.ChainLaws.{chain_lawful, chain_self_contained}
use Rattle.sms_field.specs.Inside.ChainReading.{chained, ended}
use Rattle.sms_field.specs.Inside.MappedLaws.{mapped_lawful}
use Rattle.sms_field.specs.Inside.SingleLaws.{always_self, always_lawful, octet_self, octet_lawful, octet_by_self, octet_by_lawful, octets_of_self, octets_of_lawful, map_reason_lawful, apart_then}
use Rattle.sms_field.specs.declared.fault.FieldFault.TheVariants as fields
use Rattle.sms_tpdu.specs.Fault.{unit_fault}
use Rattle.sms_tpdu.specs.Inside.AnnouncedPartsLaws.{parts_self, parts_lawful, parts_again}
use Rattle.sms_tpdu.specs.Inside.FaultLaws.{fault_apart}
use Rattle.sms_tpdu.specs.Inside.IfMoreLaws.{if_more_lawful}
use Rattle.sms_tpdu.specs.Inside.ParameterIndicatorLaws.{indicator_self, indicator_lawful, indicator_again}
use Rattle.sms_tpdu.specs.Report.AnnouncedParts.{Parts, indicator_of, AreParts, parts_octets}
use Rattle.sms_tpdu.specs.Report.Indicated.{indicated_parts, no_parts, is_any, optional_parts_octets}
use Rattle.sms_tpdu.specs.Report.ParameterIndicator.{indicator_octet}
use Rattle.sms_tpdu.specs.StatusReport.Flags.{status_report_flags, status_report_octet}
use Rattle.sms_tpdu.specs.StatusReport.{StatusReportValue, IsStatusReport, flags_in, parts_in, SpellsStatusReport}
use Rattle.sms_tpdu.specs.declared.report.parts.ReportData.{ReportData}
use Rattle.sms_tpdu.specs.declared.status_report.flags.StatusReportFlags.{StatusReportFlags}
use Rattle.sms_tpdu.specs.declared.fault.UnitFault.TheVariants as units
use Rattle.sms_card.specs.ByFirst.{by_first}
use Rattle.sms_card.specs.Fault.{record_fault}
use Rattle.sms_card.specs.Inside.ByFirstLaws.{by_first_lawful, by_first_unread, FirstMeans, first_means, first_means_before}
use Rattle.sms_card.specs.Inside.FaultLaws.{record_apart}
use Rattle.sms_card.specs.Inside.PaddingLaws.{padding_lawful, padded_lawful, padded_ends, padded_again, ends_nowhere}
use Rattle.sms_card.specs.Padding.{IsPadding, padding}
use Rattle.sms_card.specs.Report.{report_front, front_of, report_with, is_pad, end_of, report_end, stored_report}
use Rattle.sms_card.specs.declared.report.ReportFront.{ReportFront}
use Rattle.sms_card.specs.declared.fault.RecordFault.TheVariants.{Short}

-- ---- up to TP-ST

front_self : IsSelfContained report_front
unfolding report_front
front_self =
    chain_self_contained _ _ (octet_by_self units.Short status_report_flags) (λ flags.
    chain_self_contained _ _ (octet_self units.Short) (λ reference.
    chain_self_contained _ _ address_self (λ recipient.
    chain_self_contained _ _ (octets_of_self units.Short 7) (λ stamp.
    chain_self_contained _ _ (octets_of_self units.Short 7) (λ discharged.
    chain_self_contained _ _ (octet_self units.Short) (λ status.
    λ v octets rest other r. r))))))

front_lawful : IsLawful units.Short report_front
unfolding report_front
front_lawful =
    chain_lawful _ _ units.Short (octet_by_self units.Short status_report_flags) (octet_by_lawful units.Short status_report_flags (2, lit< tt, _, refl) (λ o. apart_then units.Short _ _ units.WrongType (λ e. cc))) (λ flags _ _ _.
    chain_lawful _ _ units.Short (octet_self units.Short) (octet_lawful units.Short) (λ reference _ _ _.
    chain_lawful _ _ units.Short address_self (map_reason_lawful fields.Short unit_fault fault_apart address address_lawful) (λ recipient _ _ _.
    chain_lawful _ _ units.Short (octets_of_self units.Short 7) (octets_of_lawful units.Short 7) (λ stamp _ _ _.
    chain_lawful _ _ units.Short (octets_of_self units.Short 7) (octets_of_lawful units.Short 7) (λ discharged _ _ _.
    chain_lawful _ _ units.Short (octet_self units.Short) (octet_lawful units.Short) (λ status _ _ _.
    always_lawful units.Short _))))))

-- ---- after it

indicated_self : IsSelfContained indicated_parts
unfolding indicated_parts
indicated_self = chain_self_contained _ _ indicator_self (λ there. parts_self there)

indicated_lawful : IsLawful units.Short indicated_parts
unfolding indicated_parts
indicated_lawful = chain_lawful _ _ units.Short indicator_self indicator_lawful (λ there _ _ _. parts_lawful there)

end_of_lawful : (is : Bool) → IsLawful Short (end_of is)
unfolding end_of
end_of_lawful true = mapped_lawful Short _ padding padding_lawful
end_of_lawful false = padded_lawful _ (map_reason record_fault indicated_parts) indicated_self (map_reason_lawful units.Short record_fault record_apart indicated_parts indicated_lawful)

end_of_ends : (is : Bool) (value : Parts) (octets rest : List ℕ) → (end_of is).reads value octets rest → rest ≡ []
unfolding end_of
end_of_ends true value octets rest r = r.1.1
end_of_ends false value octets rest r = padded_ends _ (map_reason record_fault indicated_parts) value octets rest r

end_starts : CanContinue (by_first Short is_pad end_of) []
unfolding end_of
end_starts = record {
  more = 255 ∷ [];
  are_octets = (lit< tt, tt);
  reading = record {
    value = no_parts;
    octets = 255 ∷ [];
    rest = [];
    parts = refl;
    read = record { chosen = true; starts = refl; read = (tt, ((refl, tt), refl), refl) };
  };
}

report_end_lawful : IsLawful Short report_end
report_end_lawful =
    if_more_lawful Short no_parts (by_first Short is_pad end_of) (by_first_unread Short is_pad end_of)
    (by_first_lawful Short is_pad end_of end_of_lawful (λ is value octet rest r. ends_nowhere octet rest (end_of_ends is value [] (octet ∷ rest) r)) (λ octet e. absurd cc) end_starts)

report_end_ends : (value : Parts) (octets rest : List ℕ) → report_end.reads value octets rest → rest ≡ []
report_end_ends value octets rest (inl h) = h.2
report_end_ends value octets rest (inr h) = end_of_ends h.chosen value octets rest h.read

-- ---- the report

pub stored_report_lawful : IsLawful Short stored_report
unfolding stored_report
stored_report_lawful =
    chain_lawful _ _ Short front_self (map_reason_lawful units.Short record_fault record_apart report_front front_lawful) (λ front _ _ _.
    mapped_lawful Short (report_with front) report_end report_end_lawful)

pub stored_report_ends : (r : StatusReportValue) (octets rest : List ℕ) → stored_report.reads r octets rest → rest ≡ []
unfolding stored_report
stored_report_ends r octets rest h = report_end_ends h.of_second.0 h.back rest h.of_second.1

front_means : (f : ReportFront) (octets rest : List ℕ) → report_front.reads f octets rest → FirstMeans status_report_flags octets
unfolding report_front
front_means f octets rest r = first_means units.Short status_report_flags _ f octets rest r

pub stored_report_means : (r : StatusReportValue) (octets rest : List ℕ) → stored_report.reads r octets rest → FirstMeans status_report_flags octets
unfolding stored_report
stored_report_means r octets rest h = first_means_before status_report_flags h.front h.back octets h.parts (front_means h.choice h.front (h.back ++ rest) h.of_first)

-- ---- what is written

twice : (b : Bool) → not (not b) ≡ b
twice true = refl
twice false = refl

flags_bits : (f : StatusReportFlags) → AreBits false true (not f.more) f.looped false f.qualifier f.header false (status_report_octet f)
flags_bits f = summed_bits false true (not f.more) f.looped false f.qualifier f.header false (status_report_octet f) (omega arith)

flags_again : (f : StatusReportFlags) → status_report_flags (status_report_octet f) ≡ Ok f
flags_again f =
    let bits = flags_bits f in
    rw (bits.bit_0, bits.bit_1, bits.bit_2, bits.bit_3, bits.bit_5, bits.bit_6, twice f.more) refl

abbrev front_octets : StatusReportValue → List ℕ
front_octets r = status_report_octet (flags_in r) ∷ r.reference ∷ (address_octets r.recipient ++ (r.stamp ++ (r.discharged ++ (r.status ∷ []))))

front_again : (r : StatusReportValue) (rest : List ℕ) → IsStatusReport r → report_front.reads (front_of r) (front_octets r) rest
unfolding report_front
front_again r rest fits =
    chained _ _ (flags_in r) (front_of r) (status_report_octet (flags_in r) ∷ []) _ rest (status_report_octet (flags_in r), refl, flags_again (flags_in r)) (
    chained _ _ r.reference (front_of r) (r.reference ∷ []) _ rest refl (
    chained _ _ r.recipient (front_of r) (address_octets r.recipient) _ rest (address_again r.recipient _ fits.recipient) (
    chained _ _ r.stamp (front_of r) r.stamp _ rest (refl, fits.stamp.0) (
    chained _ _ r.discharged (front_of r) r.discharged _ rest (refl, fits.discharged.0) (
    ended _ _ r.status (front_of r) (r.status ∷ []) rest refl
    (refl, refl))))))

indicated_again : (those : Parts) (rest : List ℕ) → AreParts those → indicated_parts.reads those (indicator_octet (indicator_of those) ∷ parts_octets those) rest
unfolding indicated_parts
indicated_again those rest fits =
    let there = indicator_of those in
    chained _ _ there those (indicator_octet there ∷ []) _ rest (indicator_again there _) (parts_again those rest fits)

are_none : (pid dcs : Option ℕ) (user : Option ReportData) → (is_some pid || is_some dcs || is_some user) ≡ false → (let those : Parts = record { pid = pid; dcs = dcs; user = user } in those) ≡ no_parts
are_none None None None e = refl
are_none (Some pid) dcs user e = absurd cc
are_none None (Some dcs) user e = absurd cc
are_none None None (Some user) e = absurd cc

no_pad : (a b c : Bool) → (weight 0 a + weight 1 b + weight 2 c == 255) ≡ false
no_pad true true true = refl
no_pad true true false = refl
no_pad true false true = refl
no_pad true false false = refl
no_pad false true true = refl
no_pad false true false = refl
no_pad false false true = refl
no_pad false false false = refl

-- padding alone
none_again : (those : Parts) (filled : List ℕ) → those ≡ no_parts → IsPadding filled → report_end.reads those filled []
unfolding end_of
none_again those [] none are = inl (none, refl, refl)
none_again those (o ∷ filled) none are =
    inr (record { chosen = true; starts = ap (λ (n : ℕ). is_pad n) are.0; read = (tt, (are, refl), none) })

end_again : (those : Parts) (filled : List ℕ) → AreParts those → IsPadding filled → report_end.reads those (optional_parts_octets those ++ filled) []
unfolding end_of
end_again those filled fits are = go (is_any (indicator_of those)) refl
  where
    go : (b : Bool) → is_any (indicator_of those) ≡ b → report_end.reads those (cond b (indicator_octet (indicator_of those) ∷ parts_octets those) [] ++ filled) []
    go true is =
        let there = indicator_of those in
        inr (record {
          chosen = false;
          starts = ap (λ (b : Bool). Ok b) (no_pad there.pid there.dcs there.user);
          read = padded_again (λ (p : Parts). p) (map_reason record_fault indicated_parts) those (indicator_octet there ∷ parts_octets those) filled (indicated_again those (filled ++ []) fits) are;
        })
    go false is = none_again those filled (are_none those.pid those.dcs those.user is) are

regrouped : (r : StatusReportValue) (parts filled : List ℕ) → (status_report_octet (flags_in r) ∷ r.reference ∷ (address_octets r.recipient ++ (r.stamp ++ (r.discharged ++ (r.status ∷ parts))))) ++ filled ≡ front_octets r ++ (parts ++ filled)
regrouped r parts filled = simp append_assoc

pub stored_report_again : (r : StatusReportValue) (octets filled : List ℕ) → SpellsStatusReport r octets → IsPadding filled → stored_report.reads r (octets ++ filled) []
unfolding stored_report
stored_report_again r octets filled s are =
    let parts : IsStatusReport r = s.0 in
    let whole : octets ++ filled ≡ front_octets r ++ (optional_parts_octets (parts_in r) ++ filled) = ap (λ (l : List ℕ). l ++ filled) s.1 ∙ regrouped r (optional_parts_octets (parts_in r)) filled in
    let read : stored_report.reads r (front_octets r ++ (optional_parts_octets (parts_in r) ++ filled)) [] =
    chained _ _ (front_of r) r (front_octets r) (optional_parts_octets (parts_in r) ++ filled) [] (front_again r _ parts) (parts_in r, end_again (parts_in r) filled parts.parts are, refl) in
    subst (λ (l : List ℕ). stored_report.reads r l []) (sym whole) read
