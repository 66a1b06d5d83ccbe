-- Reading the digits of a relay address octet by octet.
use Rattle.std.proofs.Common.{◌≡◌, ℕ, zero, suc, ◌-◌, ◌+◌, ◌*◌, ◌/◌, ◌%◌, ◌<◌, ◌≤◌, Bool, true, false, cond, ltb, List, [], ◌∷◌, ◌++◌, length, refl, sym, ap, subst, ◌∙◌, arith}
use Rattle.std.specs.Prelude.{◌&&◌}
use Rattle.std.specs.List.{AllByRecursion}
use Rattle.std.proofs.lemmas.Bool.{ltb-true}
use Rattle.std.proofs.lemmas.List.{append-nil}
use Rattle.sms_field.specs.declared.refusal.Refusal.{Refusal}
use Rattle.sms_field.specs.declared.refusal.Refusal.TheVariants.{Memory, At}
use Rattle.sms_field.specs.declared.fault.FieldFault.{FieldFault}
use Rattle.sms_field.specs.declared.fault.FieldFault.TheVariants.{Short}
use Rattle.sms_field.specs.Address.Faults.{bad_digit}
use Rattle.sms_field.specs.Field.{Outcome, found, refused, octet_at, octet_by, judged, always, ◌>>=◌}
use Rattle.sms_field.specs.Reading.Answer.{Refuses}
use Rattle.sms_field.specs.Address.DigitValues.{AreDigits}
use Rattle.sms_field.specs.Address.DigitOctets.{both_digits}
use Rattle.sms_field.specs.RelayAddress.{last_digits, relay_digits}
use Rattle.sms_field.proofs.DigitLoop.{with_front, two_at, regroup}
use Rattle.sms_field.proofs.DigitsRead.{IsDigit, chosen, then_found, judged_found, both, same_value}

abbrev pub last_at : ℕ → List ℕ → Outcome (List ℕ) FieldFault
last_at at input = (octet_by Short last_digits).read at input

pub goes_on : (front : List ℕ) (count i at : ℕ) (input : List ℕ) (two : ℕ × ℕ) (after : ℕ) (rest : List ℕ) (total : Outcome (List ℕ) FieldFault) → i < count - 1 → two_at at input ≡ found two after rest
    → with_front front ((relay_digits (count - i)).read at input) ≡ total → with_front ((front ++ two.0 ∷ []) ++ two.1 ∷ []) ((relay_digits (count - (i + 1))).read after rest) ≡ total
unfolding relay_digits
goes_on front count i at input two after rest total lt h so_far =
    let k : count - i ≡ suc (suc (count - (i + 2))) = omega arith in
    let m : count - (i + 1) ≡ suc (count - (i + 2)) = omega arith in
    let one : with_front front ((relay_digits (count - i)).read at input) ≡ with_front ((front ++ two.0 ∷ []) ++ two.1 ∷ []) ((relay_digits (count - (i + 1))).read after rest) = rw (k, m, h) (regroup front two.0 two.1 ((relay_digits (suc (count - (i + 2)))).read after rest)) in
    sym one ∙ so_far

pub ends : (e : Refusal FieldFault) (front : List ℕ) (count i at : ℕ) (input : List ℕ) (total : Outcome (List ℕ) FieldFault) → i < count - 1 → Refuses e (two_at at input)
    → with_front front ((relay_digits (count - i)).read at input) ≡ total → Refuses e total
unfolding relay_digits
ends Memory front count i at input total lt h so_far = tt
ends (At place why) front count i at input total lt h so_far =
    let k : count - i ≡ suc (suc (count - (i + 2))) = omega arith in
    let one : with_front front ((relay_digits (count - i)).read at input) ≡ refused place why = rw (k, h) refl in
    sym so_far ∙ one

pub ends_empty : (front : List ℕ) (count i at : ℕ) (input : List ℕ) (total : Outcome (List ℕ) FieldFault) → count ≤ 0
    → with_front front ((relay_digits (count - i)).read at input) ≡ total → total ≡ found front at input
unfolding relay_digits
ends_empty front count i at input total le so_far =
    let k : count - i ≡ 0 = omega arith in
    let one : with_front front ((relay_digits (count - i)).read at input) ≡ found front at input = rw k (ap (λ (l : List ℕ). found l at input) (append-nil front)) in
    sym so_far ∙ one

pub ends_last : (front : List ℕ) (count i at : ℕ) (input last : List ℕ) (after : ℕ) (rest : List ℕ) (total : Outcome (List ℕ) FieldFault) → 0 < count → count - 1 ≤ i → i ≤ count - 1 → last_at at input ≡ found last after rest
    → with_front front ((relay_digits (count - i)).read at input) ≡ total → total ≡ found (front ++ last) after rest
unfolding relay_digits
ends_last front count i at input last after rest total some le ge h so_far =
    let k : count - i ≡ 1 = omega arith in
    let one : with_front front ((relay_digits (count - i)).read at input) ≡ found (front ++ last) after rest = rw (k, h) refl in
    sym so_far ∙ one

pub fails_last : (e : Refusal FieldFault) (front : List ℕ) (count i at : ℕ) (input : List ℕ) (total : Outcome (List ℕ) FieldFault) → 0 < count → count - 1 ≤ i → i ≤ count - 1 → Refuses e (last_at at input)
    → with_front front ((relay_digits (count - i)).read at input) ≡ total → Refuses e total
unfolding relay_digits
fails_last Memory front count i at input total some le ge h so_far = tt
fails_last (At place why) front count i at input total some le ge h so_far =
    let k : count - i ≡ 1 = omega arith in
    let one : with_front front ((relay_digits (count - i)).read at input) ≡ refused place why = rw (k, h) refl in
    sym so_far ∙ one

-- ---- what is read are digits

abbrev AreUpTo : ℕ → List ℕ → Type 0
AreUpTo most v = (length v ≤ most) × AllByRecursion IsDigit v

one_or_two : (low high : ℕ) (b : Bool) → low < 15 → (b ≡ true → high < 15) → AreUpTo 2 (cond b (low ∷ high ∷ []) (low ∷ []))
one_or_two low high true h k = (omega arith, (h, (k refl, tt)))
one_or_two low high false h k = (omega arith, (h, tt))

relay_digits_fit : (n at : ℕ) (input v : List ℕ) (after : ℕ) (rest : List ℕ) → (relay_digits n).read at input ≡ found v after rest → AreUpTo (2 * n) v
unfolding relay_digits
relay_digits_fit zero at input v after rest e = subst (AreUpTo 0) (same_value [] v at after input rest e) (omega arith, tt)
relay_digits_fit (suc zero) at input v after rest e =
    let b = judged_found last_digits at (octet_at Short at input) v after rest e in
    let c = chosen (ltb (b.0 % 16) 15) (cond (ltb (b.0 / 16) 15) (b.0 % 16 ∷ b.0 / 16 ∷ []) (b.0 % 16 ∷ [])) v bad_digit b.1 in
    subst (AreUpTo 2) c.1 (one_or_two (b.0 % 16) (b.0 / 16) (ltb (b.0 / 16) 15) (ltb-true _ _ c.0) (λ is. ltb-true _ _ is))
relay_digits_fit (suc (suc n)) at input v after rest e =
    let a = then_found (judged both_digits at (octet_at Short at input)) (λ two. relay_digits (suc n) >>= λ others. always (two.0 ∷ two.1 ∷ others)) v after rest e in
    let b = judged_found both_digits at (octet_at Short at input) a.0 a.1 a.2 a.3 in
    let c = chosen (ltb (b.0 % 16) 15 && ltb (b.0 / 16) 15) (b.0 % 16, b.0 / 16) a.0 bad_digit b.1 in
    let d = both (ltb (b.0 % 16) 15) (ltb (b.0 / 16) 15) c.0 in
    let f = then_found ((relay_digits (suc n)).read a.1 a.2) (λ others. always (a.0.0 ∷ a.0.1 ∷ others)) v after rest a.4 in
    let g = relay_digits_fit (suc n) a.1 a.2 f.0 f.1 f.2 f.3 in
    subst (AreUpTo (2 * suc (suc n))) (same_value (a.0.0 ∷ a.0.1 ∷ f.0) v f.1 after f.2 rest f.4)
    (omega (arith, g.0), (rw (← c.1) (ltb-true _ _ d.0), (rw (← c.1) (ltb-true _ _ d.1), g.1)))

pub relay_digits_are : (count at : ℕ) (input v : List ℕ) (after : ℕ) (rest : List ℕ) → count ≤ 10 → (relay_digits count).read at input ≡ found v after rest → AreDigits v
relay_digits_are count at input v after rest le e =
    let h = relay_digits_fit count at input v after rest e in
    record { few = omega (arith, h.0); each = h.1 }
