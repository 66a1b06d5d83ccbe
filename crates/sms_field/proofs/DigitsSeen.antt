-- Digits seen in their octets.
use Rattle.std.proofs.Common.{◌≡◌, ◌≢◌, ℕ, zero, suc, ◌+◌, ◌-◌, ◌*◌, ◌/◌, ◌%◌, ◌<◌, ◌≤◌, Bool, true, false, cond, ltb, eqb, List, [], ◌∷◌, ◌++◌, length, take, drop, get_or, Ok, Err, refl, sym, ap, subst, ◌∙◌, arith, inl, inr, length-append}
use Rattle.std.specs.Prelude.{◌&&◌, ◌⊎◌}
use Rattle.std.specs.List.{AllByRecursion}
use Rattle.std.proofs.lemmas.List.{get_or-take, get_or_at, get_or_append_left, take_all, take-append-le}
use Rattle.sms_field.specs.Field.{Outcome, found, refused, found_if}
use Rattle.sms_field.specs.declared.fault.FieldFault.{FieldFault}
use Rattle.sms_field.specs.Address.Faults.{bad_digit}
use Rattle.sms_field.specs.Address.DigitValues.{AreDigits}
use Rattle.sms_field.specs.Address.DigitOctets.{digits}
use Rattle.std.specs.Prelude.{◌==◌}
use Rattle.std.proofs.lemmas.Bool.{eqb-true}
use Rattle.sms_text.specs.Bits.{unpacked}
use Rattle.sms_field.specs.Address.Value.{AreSymbolsOf, alphanumeric}
use Rattle.sms_field.specs.Inside.NameSpelling.{name_fits}
use Rattle.sms_field.proofs.DigitsRead.{fits_few}
use Rattle.sms_field.specs.Inside.AddressSeen.{digit_in, digits_in, symbols_in}
use Rattle.sms_field.proofs.DigitLoop.{with_front, two_at, one_at, goes_on, ends_even, ends_odd}

-- the first octet that is left
pub at_drop : (i : ℕ) (all : List ℕ) (o : ℕ) (more : List ℕ) → drop i all ≡ o ∷ more → (get_or all i 0 ≡ o) × (drop (suc i) all ≡ more) × (suc i ≤ length all)
at_drop zero [] o more e = absurd cc
at_drop zero (x ∷ xs) o more e = (cc, cc, omega arith)
at_drop (suc i) [] o more e = absurd cc
at_drop (suc i) (x ∷ xs) o more e =
    let h = at_drop i xs o more e in
    (h.0, h.1, omega (arith, h.2))

pub two_is : (at o : ℕ) (more : List ℕ) (two : ℕ × ℕ) (after : ℕ) (rest : List ℕ) → two_at at (o ∷ more) ≡ found two after rest → ((o % 16, o / 16) ≡ two) × (more ≡ rest) × (at + 1 ≡ after)
two_is at o more two after rest = go (ltb (o % 16) 15 && ltb (o / 16) 15)
  where
    go : (b : Bool) → found_if (cond b (Ok (o % 16, o / 16)) (Err bad_digit)) at (at + 1) more ≡ found two after rest → ((o % 16, o / 16) ≡ two) × (more ≡ rest) × (at + 1 ≡ after)
    go true e = (cc, cc, cc)
    go false e = absurd cc

one_is : (at o : ℕ) (more : List ℕ) (digit after : ℕ) (rest : List ℕ) → one_at at (o ∷ more) ≡ found digit after rest → (o % 16 ≡ digit) × (more ≡ rest) × (at + 1 ≡ after)
one_is at o more digit after rest = go (ltb (o % 16) 15)
  where
    go : (b : Bool) → found_if (cond b (Ok (o % 16)) (Err bad_digit)) at (at + 1) more ≡ found digit after rest → (o % 16 ≡ digit) × (more ≡ rest) × (at + 1 ≡ after)
    go true e = (cc, cc, cc)
    go false e = absurd cc

-- what was seen, and what is still seen
pub record Seen (all : List ℕ) (count i at : ℕ) (input : List ℕ) (start : ℕ) : Type 0 where
  pub going : with_front (digits_in (2 * i) all) ((digits (count - 2 * i)).read at input) ≡ (digits count).read start all
  pub left : input ≡ drop i all
  pub inside : i ≤ length all

even_digit : (all : List ℕ) (i : ℕ) → digit_in all (2 * i) ≡ get_or all i 0 % 16
even_digit all i =
    let even : 2 * i % 2 ≡ 0 = omega arith in
    let half : 2 * i / 2 ≡ i = omega arith in
    rw (even, half) refl

odd_digit : (all : List ℕ) (i : ℕ) → digit_in all (2 * i + 1) ≡ get_or all i 0 / 16
odd_digit all i =
    let odd : (2 * i + 1) % 2 ≡ 1 = omega arith in
    let half : (2 * i + 1) / 2 ≡ i = omega arith in
    rw (odd, half) refl

pub two_more : (all : List ℕ) (i o : ℕ) → get_or all i 0 ≡ o → digits_in (2 * (i + 1)) all ≡ (digits_in (2 * i) all ++ o % 16 ∷ []) ++ o / 16 ∷ []
unfolding digits_in
two_more all i o is =
    let size : 2 * (i + 1) ≡ suc (suc (2 * i)) = omega arith in
    let next : suc (2 * i) ≡ 2 * i + 1 = omega arith in
    let low : digit_in all (2 * i) ≡ o % 16 = even_digit all i ∙ ap (λ (n : ℕ). n % 16) is in
    let high : digit_in all (suc (2 * i)) ≡ o / 16 = ap (digit_in all) next ∙ odd_digit all i ∙ ap (λ (n : ℕ). n / 16) is in
    ap (λ (n : ℕ). digits_in n all) size ∙ ap (λ (n : ℕ). (digits_in (2 * i) all ++ n ∷ []) ++ digit_in all (suc (2 * i)) ∷ []) low ∙ ap (λ (n : ℕ). (digits_in (2 * i) all ++ o % 16 ∷ []) ++ n ∷ []) high

pub one_more : (all : List ℕ) (i o : ℕ) → get_or all i 0 ≡ o → digits_in (suc (2 * i)) all ≡ digits_in (2 * i) all ++ o % 16 ∷ []
unfolding digits_in
one_more all i o is = ap (λ (n : ℕ). digits_in (2 * i) all ++ n ∷ []) (even_digit all i ∙ ap (λ (n : ℕ). n % 16) is)

pub sees_on : (all : List ℕ) (count i at : ℕ) (input : List ℕ) (two : ℕ × ℕ) (after : ℕ) (rest : List ℕ) (start : ℕ) → i < count / 2 → two_at at input ≡ found two after rest → Seen all count i at input start → Seen all count (i + 1) after rest start
sees_on all count i at [] two after rest start lt e s = absurd cc
sees_on all count i at (o ∷ more) two after rest start lt e s =
    let t = two_is at o more two after rest e in
    let d = at_drop i all o more (sym s.left) in
    let h = goes_on (digits_in (2 * i) all) count i at (o ∷ more) two after rest ((digits count).read start all) lt e s.going in
    let same : digits_in (2 * (i + 1)) all ≡ (digits_in (2 * i) all ++ two.0 ∷ []) ++ two.1 ∷ [] = two_more all i o d.0 ∙ ap (λ (p : ℕ × ℕ). (digits_in (2 * i) all ++ p.0 ∷ []) ++ p.1 ∷ []) t.0 in
    record {
      going = subst (λ (l : List ℕ). with_front l ((digits (count - 2 * (i + 1))).read after rest) ≡ (digits count).read start all) (sym same) h;
      left = sym t.1 ∙ sym d.1 ∙ ap (λ (n : ℕ). drop n all) (let n : suc i ≡ i + 1 = omega arith in n);
      inside = omega (arith, d.2);
    }

digit_in-take : (all : List ℕ) (n k : ℕ) → n / 2 < k → digit_in (take k all) n ≡ digit_in all n
digit_in-take all n k lt = rw (get_or-take k all (n / 2) 0 lt) refl

pub digits_in-take : (n k : ℕ) (all : List ℕ) → (n + 1) / 2 ≤ k → digits_in n (take k all) ≡ digits_in n all
unfolding digits_in
digits_in-take zero k all le = refl
digits_in-take (suc n) k all le = rw (digits_in-take n k all (omega (arith, le)), digit_in-take all n k (omega (arith, le))) refl

pub sees_even : (all : List ℕ) (count i at : ℕ) (input : List ℕ) (start : ℕ) → count / 2 ≤ i → i ≤ count / 2 → count % 2 ≢ 1 → Seen all count i at input start → (digits count).read start all ≡ found (digits_in count (take ((count + 1) / 2) all)) at input
sees_even all count i at input start le ge even s =
    let whole : 2 * i ≡ count = omega (arith, even) in
    ends_even (digits_in (2 * i) all) count i at input ((digits count).read start all) le ge even s.going
    ∙ ap (λ (l : List ℕ). found l at input) (ap (λ (n : ℕ). digits_in n all) whole ∙ sym (digits_in-take count ((count + 1) / 2) all (omega arith)))

pub sees_odd : (all : List ℕ) (count i at : ℕ) (input : List ℕ) (digit after : ℕ) (rest : List ℕ) (start : ℕ) → count / 2 ≤ i → i ≤ count / 2 → count % 2 ≡ 1 → one_at at input ≡ found digit after rest → Seen all count i at input start
    → ((digits count).read start all ≡ found (digits_in count (take ((count + 1) / 2) all)) after rest) × ((count + 1) / 2 ≤ length all)
sees_odd all count i at [] digit after rest start le ge odd e s = absurd cc
sees_odd all count i at (o ∷ more) digit after rest start le ge odd e s =
    let t = one_is at o more digit after rest e in
    let d = at_drop i all o more (sym s.left) in
    let whole : suc (2 * i) ≡ count = omega (arith, odd) in
    let same : digits_in (2 * i) all ++ digit ∷ [] ≡ digits_in count all = ap (λ (n : ℕ). digits_in (2 * i) all ++ n ∷ []) (sym t.0) ∙ sym (one_more all i o d.0) ∙ ap (λ (n : ℕ). digits_in n all) whole in (
      ends_odd (digits_in (2 * i) all) count i at (o ∷ more) digit after rest ((digits count).read start all) le ge odd e s.going
          ∙ ap (λ (l : List ℕ). found l after rest) (same ∙ sym (digits_in-take count ((count + 1) / 2) all (omega arith))),
      omega (arith, d.2),
    )

pub front_none : (o : Outcome (List ℕ) FieldFault) → with_front [] o ≡ o
front_none (found values at rest) = refl
front_none (refused place why) = refl

pub seen_start : (all : List ℕ) (count at : ℕ) (input : List ℕ) → all ≡ input → Seen all count 0 at input at
unfolding digits_in
seen_start all count at input same = record {
  going = let size : count - 2 * 0 ≡ count = omega arith in rw size (front_none ((digits count).read at input) ∙ ap (λ (l : List ℕ). (digits count).read at l) (sym same));
  left = sym same;
  inside = omega arith;
}

-- one digit more of octets
pub digits_next : (n digit : ℕ) (octets values : List ℕ) → values ≡ digits_in n octets → digit ≡ digit_in octets n → values ++ digit ∷ [] ≡ digits_in (n + 1) octets
unfolding digits_in
digits_next n digit octets values e is = let size : n + 1 ≡ suc n = omega arith in rw (size, e, is) refl

pub digits_none : (octets : List ℕ) → [] ≡ digits_in 0 octets
unfolding digits_in
digits_none octets = refl

-- ---- as many as are counted, each in its place

pub length-digits_in : (n : ℕ) (octets : List ℕ) → length (digits_in n octets) ≡ n
unfolding digits_in
length-digits_in zero octets = refl
length-digits_in (suc n) octets = omega (arith, length-digits_in n octets, length-append (digits_in n octets) (digit_in octets n ∷ []))

last_or_before : (i n : ℕ) → i < suc n → (i ≡ n) ⊎ (i < n)
last_or_before i n lt = grind arith

pub digits_in_at : (n i : ℕ) (octets : List ℕ) → i < n → get_or (digits_in n octets) i 0 ≡ digit_in octets i
unfolding digits_in
digits_in_at zero i octets lt = absurd (omega (arith, lt))
digits_in_at (suc n) i octets lt =
    let size = length-digits_in n octets in
    elim (last_or_before i n lt) [
      | inl last ↦ get_or_at (digits_in n octets) (digit_in octets n) [] 0 i (size ∙ sym last) ∙ ap (digit_in octets) (sym last)
      | inr before ↦ get_or_append_left (digits_in n octets) (digit_in octets n ∷ []) 0 i (omega (arith, size, before)) ∙ digits_in_at n i octets before
    ]

pub low_at : (i place : ℕ) (octets : List ℕ) → i % 2 ≡ 0 → place ≡ i / 2 → get_or octets place 0 % 16 ≡ digit_in octets i
low_at i place octets even half = rw (even, half) refl

pub high_at : (i place : ℕ) (octets : List ℕ) → i % 2 ≢ 0 → place ≡ i / 2 → get_or octets place 0 / 16 ≡ digit_in octets i
high_at i place octets odd half = let one : i % 2 ≡ 1 = omega (arith, odd) in rw (one, half) refl

each_below : (values : List ℕ) (i : ℕ) → AllByRecursion (λ d. d < 15) values → get_or values i 0 < 15
each_below [] i each = omega arith
each_below (d ∷ values) zero each = each.0
each_below (d ∷ values) (suc i) each = each_below values i each.1

pub digit_below : (n i digit : ℕ) (octets : List ℕ) → AreDigits (digits_in n octets) → i < n → digit ≡ digit_in octets i → digit < 15
digit_below n i digit octets are lt is = let below = each_below (digits_in n octets) i are.each in omega (arith, below, is, digits_in_at n i octets lt)

-- the digits that were read go with their type of number
pub digits_go : (kind count at : ℕ) (input octets : List ℕ) (after : ℕ) (rest : List ℕ) → kind ≢ 5 → count ≤ 20 → (digits count).read at input ≡ found (digits_in count octets) after rest → AreSymbolsOf kind (symbols_in (kind == alphanumeric) count octets)
digits_go kind count at input octets after rest other few e = go (eqb kind 5) refl
  where
    go : (b : Bool) → eqb kind 5 ≡ b → AreSymbolsOf kind (symbols_in b count octets)
    go true is = absurd (other (eqb-true kind 5 is))
    go false is = (other, fits_few count at input (digits_in count octets) after rest few e)

pub name_goes : (kind count : ℕ) (octets : List ℕ) → kind ≡ 5 → count ≤ 20 → AreSymbolsOf kind (symbols_in (kind == alphanumeric) count octets)
name_goes kind count octets is few = rw is (refl, name_fits count (4 * count / 7) octets (unpacked 0 (4 * count / 7) octets) few refl refl)

-- ---- both digits of an octet, and as many as are counted of those of all octets

pub both_more : (octets values : List ℕ) (place o : ℕ) → values ≡ digits_in (2 * place) octets → o ≡ get_or octets place 0 → (values ++ (o % 16) ∷ []) ++ (o / 16) ∷ [] ≡ digits_in (2 * (place + 1)) octets
both_more octets values place o are is =
    let low = digits_next (2 * place) (o % 16) octets values are (ap (λ (n : ℕ). n % 16) is ∙ low_at (2 * place) place octets (omega arith) (omega arith)) in
    let high = digits_next (2 * place + 1) (o / 16) octets (values ++ (o % 16) ∷ []) low (ap (λ (n : ℕ). n / 16) is ∙ high_at (2 * place + 1) place octets (omega arith) (omega arith)) in
    let size : 2 * place + 1 + 1 ≡ 2 * (place + 1) = omega arith in
    high ∙ ap (λ (n : ℕ). digits_in n octets) size

pub first_digits : (few all : ℕ) (octets : List ℕ) → few ≤ all → take few (digits_in all octets) ≡ digits_in few octets
unfolding digits_in
first_digits few zero octets le = let none : few ≡ 0 = omega (arith, le) in rw none refl
first_digits few (suc all) octets le =
    let size = length-digits_in all octets in
    elim (last_or_before few (suc all) (omega (arith, le))) [
      | inl whole ↦ rw whole (take_all (suc all) (digits_in all octets ++ digit_in octets all ∷ []) (omega (arith, size, length-append (digits_in all octets) (digit_in octets all ∷ []))))
      | inr before ↦ take-append-le few (digits_in all octets) (digit_in octets all ∷ []) (omega (arith, before, size)) ∙ first_digits few all octets (omega (arith, before))
    ]
