-- A reader may pass this by: lemmas, for the proofs of this crate and of those above it.
--
-- Digits in octets are lawful fields, and what is written is read.
use Rattle.std.proofs.Common.{◌≡◌, ℕ, zero, suc, ◌+◌, ◌*◌, ◌/◌, ◌%◌, ◌<◌, Bool, true, cond, ltb, List, [], ◌∷◌, length, Ok, Err, refl, sym, arith, lit<}
use Rattle.std.specs.Prelude.{◌&&◌}
use Rattle.std.specs.List.{AllByRecursion}
use Rattle.std.proofs.lemmas.Bool.{lt-ltb}
use Rattle.std.proofs.lemmas.List.{append-nil}
use Rattle.sms_text.specs.Octets.{IsOctets}
use Rattle.sms_field.specs.Field.{IsLawful, IsSelfContained, octet_by, always, ◌>>=◌}
use Rattle.sms_field.specs.declared.fault.FieldFault.{FieldFault}
use Rattle.sms_field.specs.declared.fault.FieldFault.TheVariants.{Short}
use Rattle.sms_field.specs.Address.Faults.{bad_digit}
use Rattle.sms_field.specs.Address.DigitOctets.{low_digit, both_digits, digits, digit_octets}
use Rattle.sms_field.specs.Inside.ChainLaws.{chain_lawful, chain_self_contained}
use Rattle.sms_field.specs.Inside.SingleLaws.{always_self, always_lawful, octet_by_self, octet_by_lawful, apart_else}

pub digits_self : (n : ℕ) → IsSelfContained (digits n)
unfolding digits
digits_self zero = always_self FieldFault []
digits_self (suc zero) = chain_self_contained (octet_by Short low_digit) (λ digit. always (digit ∷ [])) (octet_by_self Short low_digit) (λ digit. always_self FieldFault (digit ∷ []))
digits_self (suc (suc n)) =
    chain_self_contained (octet_by Short both_digits) (λ two. digits n >>= λ others. always (two.0 ∷ two.1 ∷ others)) (octet_by_self Short both_digits)
    (λ two. chain_self_contained (digits n) (λ others. always (two.0 ∷ two.1 ∷ others)) (digits_self n) (λ others. always_self FieldFault (two.0 ∷ two.1 ∷ others)))

low_apart : (o : ℕ) → low_digit o ≡ Err Short → ⊥
low_apart o = apart_else Short (ltb (o % 16) 15) (o % 16) bad_digit (λ e. cc)

pub both_apart : (o : ℕ) → both_digits o ≡ Err Short → ⊥
both_apart o = apart_else Short (ltb (o % 16) 15 && ltb (o / 16) 15) (o % 16, o / 16) bad_digit (λ e. cc)

pub digits_lawful : (n : ℕ) → IsLawful Short (digits n)
unfolding digits
digits_lawful zero = always_lawful Short []
digits_lawful (suc zero) = chain_lawful (octet_by Short low_digit) (λ digit. always (digit ∷ [])) Short (octet_by_self Short low_digit) (octet_by_lawful Short low_digit (0, lit< tt, 0, refl) low_apart) (λ digit _ _ _. always_lawful Short (digit ∷ []))
digits_lawful (suc (suc n)) =
    chain_lawful (octet_by Short both_digits) (λ two. digits n >>= λ others. always (two.0 ∷ two.1 ∷ others)) Short (octet_by_self Short both_digits) (octet_by_lawful Short both_digits (0, lit< tt, (0, 0), refl) both_apart)
    (λ two _ _ _. chain_lawful (digits n) (λ others. always (two.0 ∷ two.1 ∷ others)) Short (digits_self n) (digits_lawful n) (λ others _ _ _. always_lawful Short (two.0 ∷ two.1 ∷ others)))

-- ---- what is written is read

chooses : {A W : Type 0} (b : Bool) (x : A) (why : W) → b ≡ true → cond b (Ok x) (Err why) ≡ Ok x
chooses b x why e = rw e refl

one_digit : (d : ℕ) → d < 15 → low_digit (240 + d) ≡ Ok d
one_digit d h =
    let low : (240 + d) % 16 ≡ d = omega arith in
    rw low (chooses (ltb d 15) d bad_digit (lt-ltb d 15 h))

pub two_digits : (d e : ℕ) → d < 15 → e < 15 → both_digits (16 * e + d) ≡ Ok (d, e)
two_digits d e h k =
    let low : (16 * e + d) % 16 ≡ d = omega arith in
    let high : (16 * e + d) / 16 ≡ e = omega arith in
    rw (low, high, lt-ltb d 15 h, lt-ltb e 15 k) refl

pub digits_again : (v rest : List ℕ) → AllByRecursion (λ d. d < 15) v → (digits (length v)).reads v (digit_octets v) rest
unfolding digits digit_octets
digits_again [] rest fits = (refl, refl)
digits_again (d ∷ []) rest fits = record {
  choice = d;
  front = (240 + d) ∷ [];
  back = [];
  parts = refl;
  of_first = (240 + d, refl, one_digit d fits.0);
  of_second = (refl, refl);
}
digits_again (d ∷ e ∷ v) rest fits = record {
  choice = (d, e);
  front = (16 * e + d) ∷ [];
  back = digit_octets v;
  parts = refl;
  of_first = (16 * e + d, refl, two_digits d e fits.0 fits.1.0);
  of_second = record { choice = v; front = digit_octets v; back = []; parts = sym (append-nil _); of_first = digits_again v rest fits.1.1; of_second = (refl, refl) };
}

pub digits_are_octets : (v : List ℕ) → AllByRecursion (λ d. d < 15) v → IsOctets (digit_octets v)
unfolding digit_octets
digits_are_octets [] fits = tt
digits_are_octets (d ∷ []) fits = (omega (arith, fits.0), tt)
digits_are_octets (d ∷ e ∷ v) fits = (omega (arith, fits.0, fits.1.0), digits_are_octets v fits.1.1)
