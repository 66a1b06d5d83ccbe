-- The digits of a relay address seen in their octets.
use Rattle.std.proofs.Common.{◌≡◌, ℕ, suc, ◌-◌, ◌+◌, ◌*◌, ◌/◌, ◌%◌, ◌<◌, ◌≤◌, Bool, true, false, cond, ltb, List, [], ◌∷◌, ◌++◌, length, take, drop, get_or, Ok, Err, refl, sym, ap, subst, ◌∙◌, arith}
use Rattle.std.proofs.lemmas.List.{get_or-take, length-take}
use Rattle.sms_field.specs.Field.{found, found_if}
use Rattle.sms_field.specs.Address.Faults.{bad_digit}
use Rattle.sms_field.specs.Inside.AddressSeen.{digits_in}
use Rattle.sms_field.specs.RelayAddress.{relay_digits}
use Rattle.sms_field.specs.Inside.RelayAddressSeen.{last_digits_in, relay_count, relay_digits_in}
use Rattle.sms_field.proofs.DigitLoop.{with_front, two_at}
use Rattle.sms_field.proofs.RelayDigitLoop.{last_at, goes_on, ends_empty, ends_last}
use Rattle.sms_field.proofs.DigitsSeen.{at_drop, two_is, two_more, one_more, digits_in-take, front_none}

-- what was seen, and what is still seen
pub record Seen (all : List ℕ) (count i at : ℕ) (input : List ℕ) (start : ℕ) : Type 0 where
  pub going : with_front (digits_in (2 * i) all) ((relay_digits (count - i)).read at input) ≡ (relay_digits count).read start all
  pub left : input ≡ drop i all
  pub inside : i ≤ length all

pub seen_start : (all : List ℕ) (count at : ℕ) (input : List ℕ) → all ≡ input → Seen all count 0 at input at
unfolding digits_in
seen_start all count at input same = record {
  going = let size : count - 0 ≡ count = omega arith in rw size (front_none ((relay_digits count).read at input) ∙ ap (λ (l : List ℕ). (relay_digits count).read at l) (sym same));
  left = sym same;
  inside = omega arith;
}

pub sees_on : (all : List ℕ) (count i at : ℕ) (input : List ℕ) (two : ℕ × ℕ) (after : ℕ) (rest : List ℕ) (start : ℕ) → i < count - 1 → two_at at input ≡ found two after rest → Seen all count i at input start → Seen all count (i + 1) after rest start
sees_on all count i at [] two after rest start lt e s = absurd cc
sees_on all count i at (o ∷ more) two after rest start lt e s =
    let t = two_is at o more two after rest e in
    let d = at_drop i all o more (sym s.left) in
    let h = goes_on (digits_in (2 * i) all) count i at (o ∷ more) two after rest ((relay_digits count).read start all) lt e s.going in
    let same : digits_in (2 * (i + 1)) all ≡ (digits_in (2 * i) all ++ two.0 ∷ []) ++ two.1 ∷ [] = two_more all i o d.0 ∙ ap (λ (p : ℕ × ℕ). (digits_in (2 * i) all ++ p.0 ∷ []) ++ p.1 ∷ []) t.0 in
    record {
      going = subst (λ (l : List ℕ). with_front l ((relay_digits (count - (i + 1))).read after rest) ≡ (relay_digits count).read start all) (sym same) h;
      left = sym t.1 ∙ sym d.1 ∙ ap (λ (n : ℕ). drop n all) (let n : suc i ≡ i + 1 = omega arith in n);
      inside = omega (arith, d.2);
    }

pub sees_none : (all : List ℕ) (count i at : ℕ) (input : List ℕ) (start : ℕ) → count ≤ 0 → i ≤ count - 1 → Seen all count i at input start → ((relay_digits count).read start all ≡ found (relay_digits_in (take count all)) at input) × (count ≤ length all)
unfolding digits_in
sees_none all count i at input start none le s =
    let at_zero : i ≡ 0 = omega (arith, none, le) in
    let zero_is : count ≡ 0 = omega (arith, none) in
    (ends_empty (digits_in (2 * i) all) count i at input ((relay_digits count).read start all) none s.going ∙ rw (at_zero, zero_is) refl, omega (arith, none))

last_is : (at o : ℕ) (more last : List ℕ) (after : ℕ) (rest : List ℕ) → last_at at (o ∷ more) ≡ found last after rest → last_digits_in o ≡ last
last_is at o more last after rest = go (ltb (o % 16) 15)
  where
    go : (b : Bool) → found_if (cond b (Ok (last_digits_in o)) (Err bad_digit)) at (at + 1) more ≡ found last after rest → last_digits_in o ≡ last
    go true e = cc
    go false e = absurd cc

-- the digits of all octets are those before the last one and then those in it
whole_digits : (all : List ℕ) (i o : ℕ) (b : Bool) → get_or all i 0 ≡ o → digits_in (2 * i) all ++ cond b (o % 16 ∷ o / 16 ∷ []) (o % 16 ∷ []) ≡ digits_in (cond b (2 * (i + 1)) (2 * (i + 1) - 1)) all
whole_digits all i o true is = append_two (digits_in (2 * i) all) (o % 16) (o / 16) ∙ sym (two_more all i o is)
  where
    append_two : (front : List ℕ) (x y : ℕ) → front ++ (x ∷ y ∷ []) ≡ (front ++ x ∷ []) ++ y ∷ []
    append_two [] x y = refl
    append_two (f ∷ front) x y = ap (λ (l : List ℕ). f ∷ l) (append_two front x y)
whole_digits all i o false is =
    let size : 2 * (i + 1) - 1 ≡ suc (2 * i) = omega arith in
    sym (one_more all i o is) ∙ ap (λ (n : ℕ). digits_in n all) (sym size)

count_few : (n : ℕ) (b : Bool) → (cond b (2 * n) (2 * n - 1) + 1) / 2 ≤ n
count_few n true = omega arith
count_few n false = omega arith

pub sees_last : (all : List ℕ) (count i at : ℕ) (input last : List ℕ) (after : ℕ) (rest : List ℕ) (start : ℕ) → 0 < count → count - 1 ≤ i → i ≤ count - 1 → last_at at input ≡ found last after rest → Seen all count i at input start
    → ((relay_digits count).read start all ≡ found (relay_digits_in (take count all)) after rest) × (count ≤ length all)
sees_last all count i at [] last after rest start some le ge e s = absurd cc
sees_last all count i at (o ∷ more) last after rest start some le ge e s =
    let t = last_is at o more last after rest e in
    let d = at_drop i all o more (sym s.left) in
    let whole : count ≡ i + 1 = omega (arith, some, le, ge) in
    let many : count ≤ length all = omega (arith, d.2, whole) in
    let size : length (take count all) ≡ count = length-take count all ∙ omega (arith, many) in
    let place : length (take count all) - 1 ≡ i = omega (arith, size, whole) in
    let last_octet : get_or (take count all) (length (take count all) - 1) 0 ≡ o = ap (λ (n : ℕ). get_or (take count all) n 0) place ∙ get_or-take count all i 0 (omega (arith, whole)) ∙ d.0 in
    let counted : relay_count (take count all) ≡ cond (ltb (o / 16) 15) (2 * (i + 1)) (2 * (i + 1) - 1) = rw (last_octet, size, whole) refl in
    let same : digits_in (2 * i) all ++ last ≡ relay_digits_in (take count all) =
    ap (λ (l : List ℕ). digits_in (2 * i) all ++ l) (sym t)
    ∙ whole_digits all i o (ltb (o / 16) 15) d.0
    ∙ sym (digits_in-take (cond (ltb (o / 16) 15) (2 * (i + 1)) (2 * (i + 1) - 1)) count all (rw whole (count_few (i + 1) (ltb (o / 16) 15))))
    ∙ ap (λ (n : ℕ). digits_in n (take count all)) (sym counted) in (
      ends_last (digits_in (2 * i) all) count i at (o ∷ more) last after rest ((relay_digits count).read start all) some le ge e s.going ∙ ap (λ (l : List ℕ). found l after rest) same,
      many,
    )
