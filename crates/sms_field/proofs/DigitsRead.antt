-- What is read as digits are digits.
use Rattle.std.proofs.Common.{◌≡◌, ℕ, zero, suc, ◌/◌, ◌%◌, ◌<◌, ◌≤◌, Bool, true, false, cond, ltb, List, [], ◌∷◌, length, Result, Ok, Err, refl, ap, subst, ◌∙◌, arith}
use Rattle.std.specs.Prelude.{◌&&◌}
use Rattle.std.specs.List.{AllByRecursion}
use Rattle.std.proofs.lemmas.Bool.{ltb-true}
use Rattle.sms_field.specs.Field.{Outcome, found, refused, Field, octet_at, found_if, judged, always, read_then, ◌>>=◌}
use Rattle.sms_field.specs.declared.fault.FieldFault.{FieldFault}
use Rattle.sms_field.specs.declared.fault.FieldFault.TheVariants.{Short}
use Rattle.sms_field.specs.Address.Faults.{bad_digit}
use Rattle.sms_field.specs.Address.DigitValues.{AreDigits}
use Rattle.sms_field.specs.Address.DigitOctets.{low_digit, both_digits, digits}

-- a test that chose a value passed
pub chosen : {A W : Type 0} (b : Bool) (x y : A) (why : W) → cond b (Ok x) (Err why) ≡ Ok y → (b ≡ true) × (x ≡ y)
chosen true x y why e = (refl, cc)
chosen false x y why e = absurd cc

-- the reading of a field that gave a value
pub then_found : {A B W : Type 0} (o : Outcome A W) (second : A → Field B W) (v : B) (after : ℕ) (rest : List ℕ) → read_then o second ≡ found v after rest → (a : A) × (at : ℕ) × (left : List ℕ) × (o ≡ found a at left) × ((second a).read at left ≡ found v after rest)
then_found (found a at left) second v after rest e = (a, at, left, refl, e)
then_found (refused p w) second v after rest e = absurd cc

pub judged_found : {V W : Type 0} (meaning : ℕ → Result V W) (at : ℕ) (o : Outcome ℕ W) (v : V) (after : ℕ) (rest : List ℕ) → judged meaning at o ≡ found v after rest → (n : ℕ) × (meaning n ≡ Ok v)
judged_found {V} {W} meaning at (found n p l) v after rest e = go (meaning n) refl e
  where
    go : (m : Result V W) → meaning n ≡ m → found_if m at p l ≡ found v after rest → (k : ℕ) × (meaning k ≡ Ok v)
    go (Err why) is f = absurd cc
    go (Ok w) is f = let same : w ≡ v = cc in (n, is ∙ ap {B = Result V W} Ok same)
judged_found meaning at (refused p w) v after rest e = absurd cc

pub both : (a b : Bool) → (a && b) ≡ true → (a ≡ true) × (b ≡ true)
both true true e = (refl, refl)
both true false e = absurd cc
both false b e = absurd cc

abbrev pub IsDigit : ℕ → Type 0
IsDigit d = d < 15

abbrev pub given : List ℕ → ℕ → List ℕ → Outcome (List ℕ) FieldFault
given v at rest = found v at rest

pub same_value : (v w : List ℕ) (p q : ℕ) (l m : List ℕ) → given v p l ≡ given w q m → v ≡ w
same_value v w p q l m e = cc

pub digits_fit : (n at : ℕ) (input v : List ℕ) (after : ℕ) (rest : List ℕ) → (digits n).read at input ≡ found v after rest → (length v ≡ n) × AllByRecursion IsDigit v
unfolding digits
digits_fit zero at input v after rest e = subst (λ (l : List ℕ). (length l ≡ 0) × AllByRecursion IsDigit l) (same_value [] v at after input rest e) (refl, tt)
digits_fit (suc zero) at input v after rest e =
    let a = then_found (judged low_digit at (octet_at Short at input)) (λ digit. always (digit ∷ [])) v after rest e in
    let b = judged_found low_digit at (octet_at Short at input) a.0 a.1 a.2 a.3 in
    let c = chosen (ltb (b.0 % 16) 15) (b.0 % 16) a.0 bad_digit b.1 in
    subst (λ (l : List ℕ). (length l ≡ 1) × AllByRecursion IsDigit l) (same_value (a.0 ∷ []) v a.1 after a.2 rest a.4) (refl, (rw (← c.1) (ltb-true _ _ c.0), tt))
digits_fit (suc (suc n)) at input v after rest e =
    let a = then_found (judged both_digits at (octet_at Short at input)) (λ two. digits n >>= λ others. always (two.0 ∷ two.1 ∷ others)) v after rest e in
    let b = judged_found both_digits at (octet_at Short at input) a.0 a.1 a.2 a.3 in
    let c = chosen (ltb (b.0 % 16) 15 && ltb (b.0 / 16) 15) (b.0 % 16, b.0 / 16) a.0 bad_digit b.1 in
    let d = both (ltb (b.0 % 16) 15) (ltb (b.0 / 16) 15) c.0 in
    let f = then_found ((digits n).read a.1 a.2) (λ others. always (a.0.0 ∷ a.0.1 ∷ others)) v after rest a.4 in
    let g = digits_fit n a.1 a.2 f.0 f.1 f.2 f.3 in
    subst (λ (l : List ℕ). (length l ≡ suc (suc n)) × AllByRecursion IsDigit l) (same_value (a.0.0 ∷ a.0.1 ∷ f.0) v f.1 after f.2 rest f.4)
    (ap (λ (k : ℕ). suc (suc k)) g.0, (rw (← c.1) (ltb-true _ _ d.0), (rw (← c.1) (ltb-true _ _ d.1), g.1)))

pub fits_few : (count at : ℕ) (input v : List ℕ) (after : ℕ) (rest : List ℕ) → count ≤ 20 → (digits count).read at input ≡ found v after rest → AreDigits v
fits_few count at input v after rest le e =
    let h = digits_fit count at input v after rest e in
    record { few = omega (arith, h.0); each = h.1 }
