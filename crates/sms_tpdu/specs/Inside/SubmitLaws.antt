-- A reader may pass this by: lemmas, for the proofs of this crate and of those above it.
--
-- An SMS-SUBMIT is a lawful field, and what is written is read back.
use Rattle.std.proofs.Common.{◌≡◌, ℕ, true, false, List, [], ◌∷◌, ◌++◌, Ok, refl, sym, subst, lit<, arith}
use Rattle.sms_text.specs.Octets.{IsOctets}
use Rattle.sms_field.specs.Inside.BitLaws.{AreBits, summed_bits}
use Rattle.sms_field.specs.Inside.ChainReading.{chained, ended}
use Rattle.sms_field.specs.Field.{IsLawful}
use Rattle.sms_tpdu.specs.UnitLaws.{AreUnitLaws}
use Rattle.sms_field.specs.Address.{address, address_octets}
use Rattle.sms_field.specs.Coding.{alphabet_at}
use Rattle.sms_field.specs.declared.fault.FieldFault.TheVariants as fields
use Rattle.sms_field.specs.Inside.ChainLaws.{chain_lawful}
use Rattle.sms_field.specs.Inside.OctetLists.{octets-append}
use Rattle.sms_field.specs.Inside.SingleLaws.{always_lawful, octet_self, octet_lawful, octet_by_self, octet_by_lawful, map_reason_lawful, apart_then}
use Rattle.sms_field.specs.Inside.AddressLaws.{address_self, address_lawful}
use Rattle.sms_field.specs.Inside.AddressSpelling.{address_again, address_are_octets}
use Rattle.sms_tpdu.specs.Fault.{unit_fault}
use Rattle.sms_tpdu.specs.Inside.FaultLaws.{fault_apart}
use Rattle.sms_tpdu.specs.Submit.Flags.{submit_flags, submit_octet}
use Rattle.sms_tpdu.specs.Submit.ValidityPeriod.{validity_format, format_bits, validity_octets}
use Rattle.sms_tpdu.specs.Inside.ValidityPeriodLaws.{validity_self, validity_lawful, validity_again, validity_are_octets}
use Rattle.sms_tpdu.specs.UserData.{SpellsUserData}
use Rattle.sms_tpdu.specs.Inside.UserDataLaws.{user_data_self, user_data_lawful, user_data_again, user_data_are_octets}
use Rattle.sms_tpdu.specs.Submit.{Submission, IsSubmittable, submit, flags_in, SpellsSubmit}
use Rattle.sms_tpdu.specs.declared.submit.flags.SubmitFlags.{SubmitFlags}
use Rattle.sms_tpdu.specs.declared.fault.UnitFault.TheVariants.{Short, WrongType}
use Rattle.sms_tpdu.specs.declared.submit.validity.ValidityFormat.{ValidityFormat}
use Rattle.sms_tpdu.specs.declared.submit.validity.ValidityFormat.TheVariants.{Absent, Relative, Enhanced, Absolute}

pub submit_lawful : IsLawful Short submit
unfolding submit
submit_lawful =
    chain_lawful _ _ Short (octet_by_self Short submit_flags) (octet_by_lawful Short submit_flags (1, lit< tt, _, refl) (λ o. apart_then Short _ _ WrongType (λ e. cc))) (λ flags _ _ _.
    chain_lawful _ _ Short (octet_self Short) (octet_lawful Short) (λ reference _ _ _.
    chain_lawful _ _ Short address_self (map_reason_lawful fields.Short unit_fault fault_apart address address_lawful) (λ target _ _ _.
    chain_lawful _ _ Short (octet_self Short) (octet_lawful Short) (λ pid _ _ _.
    chain_lawful _ _ Short (octet_self Short) (octet_lawful Short) (λ dcs _ _ _.
    chain_lawful _ _ Short (validity_self flags.format) (validity_lawful flags.format) (λ period _ _ _.
    chain_lawful _ _ Short (user_data_self flags.header (alphabet_at dcs)) (user_data_lawful flags.header (alphabet_at dcs)) (λ user _ _ _.
    always_lawful Short _)))))))

-- ---- what is written

flags_bits : (f : SubmitFlags) → AreBits true false f.reject (format_bits f.format).1 (format_bits f.format).0 f.report f.header f.reply (submit_octet f)
flags_bits f = summed_bits true false f.reject (format_bits f.format).1 (format_bits f.format).0 f.report f.header f.reply (submit_octet f) (omega arith)

format_again : (format : ValidityFormat) → validity_format (format_bits format).0 (format_bits format).1 ≡ format
format_again Absent = refl
format_again Relative = refl
format_again Enhanced = refl
format_again Absolute = refl

flags_again : (f : SubmitFlags) → submit_flags (submit_octet f) ≡ Ok f
flags_again f =
    let bits = flags_bits f in
    rw (bits.bit_0, bits.bit_1, bits.bit_2, bits.bit_3, bits.bit_4, bits.bit_5, bits.bit_6, bits.bit_7, format_again f.format) refl

submit_again : (s : Submission) (written rest : List ℕ) → IsSubmittable s → SpellsUserData s.user written
    → submit.reads s (submit_octet (flags_in s) ∷ s.reference ∷ (address_octets s.target ++ (s.pid ∷ s.dcs ∷ (validity_octets s.validity ++ written)))) rest
unfolding submit
submit_again s written rest fits p =
    chained _ _ (flags_in s) s (submit_octet (flags_in s) ∷ []) _ rest (submit_octet (flags_in s), refl, flags_again (flags_in s)) (
    chained _ _ s.reference s (s.reference ∷ []) _ rest refl (
    chained _ _ s.target s (address_octets s.target) _ rest (address_again s.target _ fits.target) (
    chained _ _ s.pid s (s.pid ∷ []) _ rest refl (
    chained _ _ s.dcs s (s.dcs ∷ []) _ rest refl (
    chained _ _ s.validity s (validity_octets s.validity) written rest (validity_again s.validity _ fits.validity) (
    ended _ _ s.user s written rest (user_data_again (alphabet_at s.dcs) s.user written rest fits.user p)
    (refl, refl)))))))

submit_are_octets : (s : Submission) (octets : List ℕ) → SpellsSubmit s octets → IsOctets octets
submit_are_octets s octets spelled =
    let fits = spelled.submittable in
    let data_fits : IsOctets (validity_octets s.validity ++ spelled.written) = octets-append (validity_octets s.validity) _ (validity_are_octets s.validity fits.validity) (user_data_are_octets (alphabet_at s.dcs) s.user spelled.written fits.user spelled.user) in
    subst IsOctets (sym spelled.parts) ((flags_bits (flags_in s)).small, (fits.reference, octets-append (address_octets s.target) _ (address_are_octets s.target fits.target) (fits.pid, (fits.dcs, data_fits))))

pub submit_laws : AreUnitLaws Short submit SpellsSubmit (λ _ _. Unit {0})
submit_laws = record {
  lawful = submit_lawful;
  octets = submit_are_octets;
  again = λ v octets more p free. subst (λ (l : List ℕ). submit.reads v l more) (sym p.parts) (submit_again v p.written more p.submittable p.user);
}
