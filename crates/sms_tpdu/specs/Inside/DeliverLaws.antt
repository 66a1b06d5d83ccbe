-- A reader may pass this by: lemmas, for the proofs of this crate and of those above it.
--
-- An SMS-DELIVER is a lawful field, and what is written is read back.
use Rattle.std.proofs.Common.{◌≡◌, ℕ, Bool, true, false, not, List, [], ◌∷◌, ◌++◌, Ok, refl, sym, subst, lit<, arith}
use Rattle.sms_text.specs.Octets.{IsOctets}
use Rattle.sms_field.specs.Inside.BitLaws.{AreBits, summed_bits}
use Rattle.sms_field.specs.Inside.ChainReading.{chained, ended}
use Rattle.sms_field.specs.Field.{IsLawful}
use Rattle.sms_tpdu.specs.UnitLaws.{AreUnitLaws}
use Rattle.sms_field.specs.Address.{address, address_octets}
use Rattle.sms_field.specs.Coding.{alphabet_at}
use Rattle.sms_field.specs.declared.fault.FieldFault.TheVariants as fields
use Rattle.sms_field.specs.Inside.ChainLaws.{chain_lawful}
use Rattle.sms_field.specs.Inside.OctetLists.{octets-append}
use Rattle.sms_field.specs.Inside.SingleLaws.{always_lawful, octet_self, octet_lawful, octet_by_self, octet_by_lawful, octets_of_self, octets_of_lawful, map_reason_lawful, apart_then}
use Rattle.sms_field.specs.Inside.AddressLaws.{address_self, address_lawful}
use Rattle.sms_field.specs.Inside.AddressSpelling.{address_again, address_are_octets}
use Rattle.sms_tpdu.specs.Fault.{unit_fault}
use Rattle.sms_tpdu.specs.Inside.FaultLaws.{fault_apart}
use Rattle.sms_tpdu.specs.Deliver.Flags.{deliver_flags, deliver_octet}
use Rattle.sms_tpdu.specs.UserData.{SpellsUserData}
use Rattle.sms_tpdu.specs.Inside.UserDataLaws.{user_data_self, user_data_lawful, user_data_again, user_data_are_octets}
use Rattle.sms_tpdu.specs.Deliver.{Delivery, IsDeliverable, deliver, flags_in, SpellsDeliver}
use Rattle.sms_tpdu.specs.declared.deliver.flags.DeliverFlags.{DeliverFlags}
use Rattle.sms_tpdu.specs.declared.fault.UnitFault.TheVariants.{Short, WrongType}

pub deliver_lawful : IsLawful Short deliver
unfolding deliver
deliver_lawful =
    chain_lawful _ _ Short (octet_by_self Short deliver_flags) (octet_by_lawful Short deliver_flags (0, lit< tt, _, refl) (λ o. apart_then Short _ _ WrongType (λ e. cc))) (λ flags _ _ _.
    chain_lawful _ _ Short address_self (map_reason_lawful fields.Short unit_fault fault_apart address address_lawful) (λ origin _ _ _.
    chain_lawful _ _ Short (octet_self Short) (octet_lawful Short) (λ pid _ _ _.
    chain_lawful _ _ Short (octet_self Short) (octet_lawful Short) (λ dcs _ _ _.
    chain_lawful _ _ Short (octets_of_self Short 7) (octets_of_lawful Short 7) (λ stamp _ _ _.
    chain_lawful _ _ Short (user_data_self flags.header (alphabet_at dcs)) (user_data_lawful flags.header (alphabet_at dcs)) (λ user _ _ _.
    always_lawful Short _))))))

-- ---- what is written

flags_bits : (f : DeliverFlags) → AreBits false false (not f.more) f.looped false f.report f.header f.reply (deliver_octet f)
flags_bits f = summed_bits false false (not f.more) f.looped false f.report f.header f.reply (deliver_octet f) (omega arith)

pub twice : (b : Bool) → not (not b) ≡ b
twice true = refl
twice false = refl

flags_again : (f : DeliverFlags) → deliver_flags (deliver_octet f) ≡ Ok f
flags_again f =
    let bits = flags_bits f in
    rw (bits.bit_0, bits.bit_1, bits.bit_2, bits.bit_3, bits.bit_5, bits.bit_6, bits.bit_7, twice f.more) refl

deliver_again : (d : Delivery) (written rest : List ℕ) → IsDeliverable d → SpellsUserData d.user written
    → deliver.reads d (deliver_octet (flags_in d) ∷ (address_octets d.origin ++ (d.pid ∷ d.dcs ∷ (d.stamp ++ written)))) rest
unfolding deliver
deliver_again d written rest fits p =
    chained _ _ (flags_in d) d (deliver_octet (flags_in d) ∷ []) _ rest (deliver_octet (flags_in d), refl, flags_again (flags_in d)) (
    chained _ _ d.origin d (address_octets d.origin) _ rest (address_again d.origin _ fits.origin) (
    chained _ _ d.pid d (d.pid ∷ []) _ rest refl (
    chained _ _ d.dcs d (d.dcs ∷ []) _ rest refl (
    chained _ _ d.stamp d d.stamp written rest (refl, fits.stamp.0) (
    ended _ _ d.user d written rest (user_data_again (alphabet_at d.dcs) d.user written rest fits.user p)
    (refl, refl))))))

deliver_are_octets : (d : Delivery) (octets : List ℕ) → SpellsDeliver d octets → IsOctets octets
deliver_are_octets d octets s =
    let fits = s.deliverable in
    subst IsOctets (sym s.parts) ((flags_bits (flags_in d)).small, octets-append (address_octets d.origin) _ (address_are_octets d.origin fits.origin) (fits.pid, (fits.dcs, octets-append d.stamp _ fits.stamp.1 (user_data_are_octets (alphabet_at d.dcs) d.user s.written fits.user s.user))))

pub deliver_laws : AreUnitLaws Short deliver SpellsDeliver (λ _ _. Unit {0})
deliver_laws = record {
  lawful = deliver_lawful;
  octets = deliver_are_octets;
  again = λ v octets more p free. subst (λ (l : List ℕ). deliver.reads v l more) (sym p.parts) (deliver_again v p.written more p.deliverable p.user);
}
