-- A reader may pass this by: lemmas, for the proofs of this crate and of those above it.
--
-- A relay address, or none, is a lawful field, and what is written is read.
use Rattle.std.proofs.Common.{◌≡◌, ℕ, zero, suc, ◌+◌, ◌-◌, ◌*◌, ◌/◌, ◌%◌, ◌<◌, ◌≤◌, Bool, true, false, ltb, leb, List, [], ◌∷◌, length, Option, Some, None, Ok, Err, refl, sym, ap, subst, arith, lit<}
use Rattle.std.specs.Prelude.{◌==◌, if◌then◌else◌, nat_lt}
use Rattle.std.specs.List.{AllByRecursion}
use Rattle.std.proofs.lemmas.Bool.{lt-ltb, le-leb, ne_eqb}
use Rattle.std.proofs.lemmas.List.{append-nil}
use Rattle.sms_text.specs.Octets.{IsOctets}
use Rattle.sms_field.specs.Field.{IsLawful, IsSelfContained, octet_by, always, ◌>>=◌, up_to}
use Rattle.sms_field.specs.declared.fault.FieldFault.{FieldFault}
use Rattle.sms_field.specs.declared.fault.FieldFault.TheVariants.{Short}
use Rattle.sms_field.specs.Address.Faults.{too_long, bad_digit}
use Rattle.sms_field.specs.Address.DigitOctets.{both_digits, digit_octets}
use Rattle.sms_field.specs.Inside.DigitLaws.{both_apart, two_digits, digits_are_octets}
use Rattle.sms_field.specs.RelayAddress.Value.{RelayAddressValue, HasRelaySpelling, HasOptionalSpelling}
use Rattle.sms_field.specs.RelayAddress.{last_digits, relay_digits, relay_part, relay_address, relay_address_octets, optional_address_octets}
use Rattle.sms_field.specs.Inside.ChainLaws.{chain_lawful, chain_self_contained}
use Rattle.sms_field.specs.Inside.SingleLaws.{always_self, always_lawful, octet_self, octet_lawful, octet_by_self, octet_by_lawful, apart_else}

last_apart : (o : ℕ) → last_digits o ≡ Err Short → ⊥
last_apart o = apart_else Short (ltb (o % 16) 15) (if nat_lt (o / 16) 15 then o % 16 ∷ o / 16 ∷ [] else o % 16 ∷ []) bad_digit (λ e. cc)

relay_digits_self : (n : ℕ) → IsSelfContained (relay_digits n)
unfolding relay_digits
relay_digits_self zero = always_self FieldFault []
relay_digits_self (suc zero) = octet_by_self Short last_digits
relay_digits_self (suc (suc n)) =
    chain_self_contained (octet_by Short both_digits) (λ two. relay_digits (suc n) >>= λ others. always (two.0 ∷ two.1 ∷ others)) (octet_by_self Short both_digits)
    (λ two. chain_self_contained (relay_digits (suc n)) (λ others. always (two.0 ∷ two.1 ∷ others)) (relay_digits_self (suc n)) (λ others. always_self FieldFault (two.0 ∷ two.1 ∷ others)))

relay_digits_lawful : (n : ℕ) → IsLawful Short (relay_digits n)
unfolding relay_digits
relay_digits_lawful zero = always_lawful Short []
relay_digits_lawful (suc zero) = octet_by_lawful Short last_digits (0, lit< tt, (0 ∷ 0 ∷ []), refl) last_apart
relay_digits_lawful (suc (suc n)) =
    chain_lawful (octet_by Short both_digits) (λ two. relay_digits (suc n) >>= λ others. always (two.0 ∷ two.1 ∷ others)) Short (octet_by_self Short both_digits) (octet_by_lawful Short both_digits (0, lit< tt, (0, 0), refl) both_apart)
    (λ two _ _ _. chain_lawful (relay_digits (suc n)) (λ others. always (two.0 ∷ two.1 ∷ others)) Short (relay_digits_self (suc n)) (relay_digits_lawful (suc n)) (λ others _ _ _. always_lawful Short (two.0 ∷ two.1 ∷ others)))

abbrev with_kind : ℕ → List ℕ → Option RelayAddressValue
with_kind kind values = Some (record { kind = kind / 16 % 8; plan = kind % 16; digits = values })

relay_part_self : (none : Bool) (count : ℕ) → IsSelfContained (relay_part none count)
unfolding relay_part
relay_part_self true count = always_self FieldFault None
relay_part_self false count =
    chain_self_contained _ _ (octet_self Short)
    (λ kind. chain_self_contained _ _ (relay_digits_self count)
    (λ values. always_self FieldFault (with_kind kind values)))

relay_part_lawful : (none : Bool) (count : ℕ) → IsLawful Short (relay_part none count)
unfolding relay_part
relay_part_lawful true count = always_lawful Short None
relay_part_lawful false count =
    chain_lawful _ _ Short (octet_self Short) (octet_lawful Short)
    (λ kind _ _ _. chain_lawful _ _ Short (relay_digits_self count) (relay_digits_lawful count)
    (λ values _ _ _. always_lawful Short (with_kind kind values)))

count_apart : (o : ℕ) → up_to 11 too_long o ≡ Err Short → ⊥
count_apart o = apart_else Short (leb o 11) o too_long (λ e. cc)

pub relay_address_self : IsSelfContained relay_address
unfolding relay_address
relay_address_self = chain_self_contained _ _ (octet_by_self Short (up_to 11 too_long)) (λ count. relay_part_self (count == 0) (count - 1))

pub relay_address_lawful : IsLawful Short relay_address
unfolding relay_address
relay_address_lawful =
    chain_lawful _ _ Short (octet_by_self Short (up_to 11 too_long)) (octet_by_lawful Short (up_to 11 too_long) (0, lit< tt, 0, refl) count_apart)
    (λ count _ _ _. relay_part_lawful (count == 0) (count - 1))

-- ---- what is written is read

last_one : (d : ℕ) → d < 15 → last_digits (240 + d) ≡ Ok (d ∷ [])
last_one d h =
    let low : (240 + d) % 16 ≡ d = omega arith in
    let high : (240 + d) / 16 ≡ 15 = omega arith in
    rw (low, high, lt-ltb d 15 h) refl

last_two : (d e : ℕ) → d < 15 → e < 15 → last_digits (16 * e + d) ≡ Ok (d ∷ e ∷ [])
last_two d e h k =
    let low : (16 * e + d) % 16 ≡ d = omega arith in
    let high : (16 * e + d) / 16 ≡ e = omega arith in
    rw (low, high, lt-ltb d 15 h, lt-ltb e 15 k) refl

relay_digits_again : (v rest : List ℕ) (n : ℕ) → n ≡ (length v + 1) / 2 → AllByRecursion (λ d. d < 15) v → (relay_digits n).reads v (digit_octets v) rest
unfolding relay_digits digit_octets
relay_digits_again [] rest zero is fits = (refl, refl)
relay_digits_again [] rest (suc n) is fits = absurd (omega (arith, is))
relay_digits_again (d ∷ []) rest zero is fits = absurd (omega (arith, is))
relay_digits_again (d ∷ []) rest (suc zero) is fits = (240 + d, refl, last_one d fits.0)
relay_digits_again (d ∷ []) rest (suc (suc n)) is fits = absurd (omega (arith, is))
relay_digits_again (d ∷ e ∷ []) rest zero is fits = absurd (omega (arith, is))
relay_digits_again (d ∷ e ∷ []) rest (suc zero) is fits = (16 * e + d, refl, last_two d e fits.0 fits.1.0)
relay_digits_again (d ∷ e ∷ []) rest (suc (suc n)) is fits = absurd (omega (arith, is))
relay_digits_again (d ∷ e ∷ f ∷ v) rest zero is fits = absurd (omega (arith, is))
relay_digits_again (d ∷ e ∷ f ∷ v) rest (suc zero) is fits = absurd (omega (arith, is))
relay_digits_again (d ∷ e ∷ f ∷ v) rest (suc (suc n)) is fits = record {
  choice = (d, e);
  front = (16 * e + d) ∷ [];
  back = digit_octets (f ∷ v);
  parts = refl;
  of_first = (16 * e + d, refl, two_digits d e fits.0 fits.1.0);
  of_second = record { choice = f ∷ v; front = digit_octets (f ∷ v); back = []; parts = sym (append-nil (digit_octets (f ∷ v))); of_first = relay_digits_again (f ∷ v) rest (suc n) (omega (arith, is)) fits.1.1; of_second = (refl, refl) };
}

count_again : (count : ℕ) → count ≤ 11 → up_to 11 too_long count ≡ Ok count
count_again count le = rw (le-leb count 11 le) refl

relay_part_again : (a : RelayAddressValue) (rest : List ℕ) (count : ℕ) → count ≡ (length a.digits + 1) / 2 → HasRelaySpelling a → (relay_part false count).reads (Some a) ((128 + 16 * a.kind + a.plan) ∷ digit_octets a.digits) rest
unfolding relay_part
relay_part_again a rest count is fits =
    let octet : ℕ = 128 + 16 * a.kind + a.plan in
    let kind : octet / 16 % 8 ≡ a.kind = omega (arith, fits.kind, fits.plan) in
    let plan : octet % 16 ≡ a.plan = omega (arith, fits.plan) in
    record {
      choice = octet;
      front = octet ∷ [];
      back = digit_octets a.digits;
      parts = refl;
      of_first = refl;
      of_second = record {
        choice = a.digits;
        front = digit_octets a.digits;
        back = [];
        parts = sym (append-nil (digit_octets a.digits));
        of_first = relay_digits_again a.digits rest count is fits.digits.each;
        of_second = (rw (kind, plan) refl, refl);
      };
    }

none_again : (rest : List ℕ) → relay_address.reads None (0 ∷ []) rest
unfolding relay_address relay_part
none_again rest = record { choice = 0; front = 0 ∷ []; back = []; parts = refl; of_first = (0, refl, refl); of_second = (refl, refl) }

some_again : (a : RelayAddressValue) (rest : List ℕ) → HasRelaySpelling a → relay_address.reads (Some a) (relay_address_octets a) rest
unfolding relay_address relay_address_octets
some_again a rest fits =
    let half : ℕ = (length a.digits + 1) / 2 in
    let more : half + 1 ≡ suc half = omega arith in
    let less : suc half - 1 ≡ half = omega arith in
    let some : (suc half == 0) ≡ false = ne_eqb (suc half) 0 (λ e. absurd (omega (arith, e))) in
    let few : suc half ≤ 11 = omega (arith, fits.digits.few) in
    record {
      choice = suc half;
      front = (half + 1) ∷ [];
      back = (128 + 16 * a.kind + a.plan) ∷ digit_octets a.digits;
      parts = refl;
      of_first = (suc half, ap (λ (n : ℕ). n ∷ []) more, count_again (suc half) few);
      of_second = subst (λ (b : Bool). (relay_part b (suc half - 1)).reads (Some a) ((128 + 16 * a.kind + a.plan) ∷ digit_octets a.digits) rest) (sym some) (relay_part_again a rest (suc half - 1) less fits);
    }

pub relay_address_again : (v : Option RelayAddressValue) (rest : List ℕ) → HasOptionalSpelling v → relay_address.reads v (optional_address_octets v) rest
relay_address_again None rest fits = none_again rest
relay_address_again (Some a) rest fits = some_again a rest fits

some_octets : (a : RelayAddressValue) → HasRelaySpelling a → IsOctets (relay_address_octets a)
unfolding relay_address_octets
some_octets a fits = (omega (arith, fits.digits.few), (omega (arith, fits.kind, fits.plan), digits_are_octets a.digits fits.digits.each))

pub relay_address_are_octets : (v : Option RelayAddressValue) → HasOptionalSpelling v → IsOctets (optional_address_octets v)
relay_address_are_octets None fits = (lit< tt, tt)
relay_address_are_octets (Some a) fits = some_octets a fits
