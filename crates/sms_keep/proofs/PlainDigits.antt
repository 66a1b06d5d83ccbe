-- Digits are written as the octets that they are read from, where what is not used is filled.
use Rattle.std.proofs.Common.{◌≡◌, ℕ, zero, suc, ◌+◌, ◌*◌, ◌/◌, ◌%◌, ◌<◌, ◌≤◌, ◌⊎◌, inl, inr, Bool, true, false, cond, ltb, List, [], ◌∷◌, ◌++◌, length, slice_index, Result, Ok, Err, refl, sym, ap, subst, ◌∙◌, length-append, arith}
use Rattle.std.specs.Prelude.{◌&&◌}
use Rattle.std.specs.List.{AllByRecursion}
use Rattle.std.proofs.lemmas.List.{append-nil}
use Rattle.sms_text.specs.Octets.{IsOctets}
use Rattle.sms_field.specs.declared.fault.FieldFault.{FieldFault}
use Rattle.sms_field.specs.Address.Faults.{bad_digit}
use Rattle.sms_field.specs.Address.DigitOctets.{low_digit, both_digits, digits, digit_octets}
use Rattle.sms_field.specs.Field.{◌>>=◌, always, octet_by}
use Rattle.sms_field.specs.Inside.OctetLists.{octets_front, octets_back}

-- the half after an odd last digit is 15
abbrev pub Filled : ℕ → List ℕ → Type 0
Filled count octets = (count % 2 ≡ 0) ⊎ (240 ≤ slice_index octets (count / 2))

chosen : {A W : Type 0} (b : Bool) (x y : A) (why : W) → cond b (Ok x) (Err why) ≡ Ok y → x ≡ y
chosen true x y why e = cc
chosen false x y why e = absurd cc

low_is : (o d : ℕ) → low_digit o ≡ Ok d → o % 16 ≡ d
low_is o d e = chosen (ltb (o % 16) 15) (o % 16) d bad_digit e

both_are : (o : ℕ) (two : ℕ × ℕ) → both_digits o ≡ Ok two → (o % 16, o / 16) ≡ two
both_are o two e = chosen (ltb (o % 16) 15 && ltb (o / 16) 15) (o % 16, o / 16) two bad_digit e

-- ---- what is read

pub as_many : (count : ℕ) (values octets rest : List ℕ) → (digits count).reads values octets rest → (length octets ≡ (count + 1) / 2) × (length values ≡ count)
unfolding digits
as_many zero values octets rest r = (ap length r.1, ap length r.0)
as_many (suc zero) values octets rest r = (
  omega (arith, ap length r.parts, length-append r.front r.back, ap length r.of_first.1, ap length r.of_second.1),
  ap length r.of_second.0,
)
as_many (suc (suc n)) values octets rest r =
    let others = r.of_second in
    let h = as_many n others.choice others.front (others.back ++ rest) others.of_first in (
      omega (arith, h.0, ap length r.parts, length-append r.front r.back, ap length r.of_first.1, ap length others.parts, length-append others.front others.back, ap length others.of_second.1),
      omega (arith, h.1, ap length others.of_second.0),
    )

one_written : (o d : ℕ) (octets values : List ℕ) → octets ≡ o ∷ [] → o % 16 ≡ d → values ≡ d ∷ [] → IsOctets octets → Filled 1 octets → octets ≡ digit_octets values
unfolding digit_octets
one_written o d octets values e low is fits (inl none) = absurd (omega (arith, none))
one_written o d octets values e low is fits (inr high) =
    let below : o < 256 = (subst IsOctets e fits).0 in
    let above : 240 ≤ o = subst (λ (l : List ℕ). 240 ≤ slice_index l 0) e high in
    let same : o ≡ 240 + d = omega (arith, below, above, low) in
    e ∙ ap (λ (n : ℕ). n ∷ []) same ∙ sym (ap digit_octets is)

filled_after : (n o : ℕ) (octets others : List ℕ) → octets ≡ o ∷ others → Filled (suc (suc n)) octets → Filled n others
filled_after n o octets others e (inl even) = inl (omega (arith, even))
filled_after n o octets others e (inr high) =
    let half : suc (suc n) / 2 ≡ suc (n / 2) = omega arith in
    inr (subst (λ (l : List ℕ). 240 ≤ slice_index l (suc (n / 2))) e (subst (λ (k : ℕ). 240 ≤ slice_index octets k) half high))

pub as_written : (count : ℕ) (values octets rest : List ℕ) → IsOctets octets → (digits count).reads values octets rest → Filled count octets → octets ≡ digit_octets values
unfolding digits digit_octets
as_written zero values octets rest fits r filled = r.1 ∙ sym (ap digit_octets r.0)
as_written (suc zero) values octets rest fits r filled =
    let o : ℕ = r.of_first.0 in
    let whole : octets ≡ o ∷ [] = r.parts ∙ ap (λ (f : List ℕ). f ++ r.back) r.of_first.1 ∙ ap (λ (b : List ℕ). o ∷ b) r.of_second.1 in
    one_written o r.choice octets values whole (low_is o r.choice r.of_first.2) r.of_second.0 fits filled
as_written (suc (suc n)) values octets rest fits r filled =
    let o : ℕ = r.of_first.0 in
    let two : ℕ × ℕ = r.choice in
    let others = r.of_second in
    let left : r.back ≡ others.front = others.parts ∙ ap (λ (b : List ℕ). others.front ++ b) others.of_second.1 ∙ append-nil others.front in
    let whole : octets ≡ o ∷ others.front = r.parts ∙ ap (λ (f : List ℕ). f ++ r.back) r.of_first.1 ∙ ap (λ (b : List ℕ). o ∷ b) left in
    let h : others.front ≡ digit_octets others.choice =
    as_written n others.choice others.front (others.back ++ rest) (subst IsOctets whole fits).1 others.of_first (filled_after n o octets others.front whole filled) in
    let halves = both_are o two r.of_first.2 in
    let low : o % 16 ≡ two.0 = ap (λ (p : ℕ × ℕ). p.0) halves in
    let high : o / 16 ≡ two.1 = ap (λ (p : ℕ × ℕ). p.1) halves in
    let same : o ≡ 16 * two.1 + two.0 = omega (arith, low, high) in
    whole ∙ ap (λ (k : ℕ). k ∷ others.front) same ∙ ap (λ (l : List ℕ). (16 * two.1 + two.0) ∷ l) h ∙ sym (ap digit_octets others.of_second.0)

-- ---- what is written

pub half_as_many : (values : List ℕ) → length (digit_octets values) ≡ (length values + 1) / 2
unfolding digit_octets
half_as_many [] = refl
half_as_many (d ∷ []) = refl
half_as_many (d ∷ e ∷ values) = let h = half_as_many values in omega (arith, h)

pub is_filled_so : (values : List ℕ) → Filled (length values) (digit_octets values)
unfolding digit_octets
is_filled_so [] = inl refl
is_filled_so (d ∷ []) = inr (omega arith)
is_filled_so (d ∷ e ∷ values) = by (is_filled_so values) where
  by : Filled (length values) (digit_octets values) → Filled (suc (suc (length values))) ((16 * e + d) ∷ digit_octets values)
  by (inl even) = inl (omega (arith, even))
  by (inr high) =
      let half : suc (suc (length values)) / 2 ≡ suc (length values / 2) = omega arith in
      inr (subst (λ (k : ℕ). 240 ≤ slice_index ((16 * e + d) ∷ digit_octets values) k) (sym half) high)
