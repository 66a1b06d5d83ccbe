-- A reader may pass this by: lemmas, for the proofs of this crate and of those above it.
--
-- A header is a lawful field, and what is written is read back.
use Rattle.std.proofs.Common.{◌≡◌, ℕ, ◌≤◌, leb, List, [], ◌∷◌, length, Ok, refl, lit<, arith}
use Rattle.std.proofs.lemmas.Bool.{le-leb}
use Rattle.sms_field.specs.Field.{IsLawful}
use Rattle.sms_field.specs.Address.{up_to}
use Rattle.sms_field.specs.Inside.ChainLaws.{chain_lawful}
use Rattle.sms_field.specs.Inside.SingleLaws.{octet_by_self, octet_by_lawful, octets_of_lawful, apart_else}
use Rattle.sms_tpdu.specs.UnitLaws.{AreUnitLaws, laws_by}
use Rattle.sms_tpdu.specs.UserData.Header.{IsHeader, header, SpellsHeader}
use Rattle.sms_tpdu.specs.declared.fault.UnitFault.TheVariants.{Short, HeaderTooLong}

pub header_lawful : IsLawful Short header
unfolding header
header_lawful =
    chain_lawful _ _ Short (octet_by_self Short (up_to 139 HeaderTooLong)) (octet_by_lawful Short (up_to 139 HeaderTooLong) (0, lit< tt, 0, refl) (λ o. apart_else Short (leb o 139) o HeaderTooLong (λ e. cc))) (λ size _ _ _.
    octets_of_lawful Short size)

few_octets : (n : ℕ) → n ≤ 139 → up_to 139 HeaderTooLong n ≡ Ok n
few_octets n h = rw (le-leb n 139 h) refl

header_again : (value rest : List ℕ) → length value ≤ 139 → header.reads value (length value ∷ value) rest
unfolding header
header_again value rest few = record {
  choice = length value;
  front = length value ∷ [];
  back = value;
  parts = refl;
  of_first = (length value, refl, few_octets (length value) few);
  of_second = (refl, refl);
}

pub header_laws : AreUnitLaws Short header SpellsHeader (λ _ _. Unit {0})
header_laws = laws_by Short header IsHeader (λ v. length v ∷ v) header_lawful (λ v is. (omega (arith, is.0), is.1)) (λ v rest is. header_again v rest is.0)
