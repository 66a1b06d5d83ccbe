-- Reading hexadecimal digits.
use Rattle.std.proofs.Common.{◌≡◌, ◌≢◌, ℕ, ◌+◌, ◌-◌, ◌*◌, ◌/◌, ◌%◌, ◌^◌, ◌<◌, ◌≤◌, Bool, true, false, not, ◌&&◌, ◌||◌, cond, eqb, ltb, List, [], ◌∷◌, ◌++◌, length, take, drop, get_or, slice_set, Option, Some, None, unwrap_or, Result, Ok, Err, bit_or, refl, sym, ap, subst, ◌∙◌, arith, take-add, take-take, append_assoc, length-take-le}
use Rattle.std.specs.List.{list_all}
use Rattle.std.proofs.lemmas.Bool.{agree_below_at, eqb-true, eq-eqb, ne_eqb, ltb-true, and_parts, and_from, cond-true, cond-false}
use Rattle.std.proofs.lemmas.List.{take_all, take_at, take-append-drop, drop_all, drop_more, take_more_set, append-nil}
use Rattle.std.proofs.lemmas.Nat.{or_shifted, or_of_8, le_or_l, le_or_r}
use Rattle.sms_page.proofs.PlaceLemmas.{IsPut-set}
use Rattle.std.proofs.lemmas.Simd.{length-chunk}
use lib.Lanes.{chunk}
use Rattle.hex.specs.Hex.{hex_digit_value, is_hex_digit}
use Rattle.sms_page.specs.Inside.Place.{IsPut}
use Rattle.sms_page.specs.Hexadecimal.{number_of, octets_from, octets_of, in_front, is_blank, Reads}
use Rattle.sms_page.specs.Inside.Pairs.{octets_of_pairs, HaveOctets}

-- ---- pairs of digits

list_all-append : (p : ℕ → Bool) (xs ys : List ℕ) → list_all p xs ≡ true → list_all p ys ≡ true → list_all p (xs ++ ys) ≡ true
list_all-append p [] ys a b = b
list_all-append p (x ∷ xs) ys a b =
    let parts = and_parts (p x) (list_all p xs) a in and_from (p x) (list_all p (xs ++ ys)) parts.0 (list_all-append p xs ys parts.1 b)

list_all-front : (p : ℕ → Bool) (xs ys : List ℕ) → list_all p (xs ++ ys) ≡ true → list_all p xs ≡ true
list_all-front p [] ys a = refl
list_all-front p (x ∷ xs) ys a =
    let parts = and_parts (p x) (list_all p (xs ++ ys)) a in and_from (p x) (list_all p xs) parts.0 (list_all-front p xs ys parts.1)

pairs-append : (xs ys : List ℕ) (n : ℕ) → length xs ≡ 2 * n → octets_of_pairs (xs ++ ys) ≡ octets_of_pairs xs ++ octets_of_pairs ys
unfolding octets_of_pairs
pairs-append [] ys n even = refl
pairs-append (a ∷ []) ys n even = absurd (omega (arith, even))
pairs-append (a ∷ b ∷ xs) ys n even = ap (λ (l : List ℕ). (number_of a * 16 + number_of b) ∷ l) (pairs-append xs ys (n - 1) (omega (arith, even)))

pub length-pairs : (xs : List ℕ) (n : ℕ) → length xs ≡ 2 * n → length (octets_of_pairs xs) ≡ n
unfolding octets_of_pairs
length-pairs [] n even = omega (arith, even)
length-pairs (a ∷ []) n even = absurd (omega (arith, even))
length-pairs (a ∷ b ∷ xs) n even = omega (arith, even, length-pairs xs (n - 1) (omega (arith, even)))

-- the digits so far are the octets so far
pub record PairsSoFar (digits octets : List ℕ) (at : ℕ) : Type 0 where
  pub all : list_all is_hex_digit (take (2 * at) digits) ≡ true
  pub octets_are : take at octets ≡ octets_of_pairs (take (2 * at) digits)

pub no_pairs : (digits octets : List ℕ) → PairsSoFar digits octets 0
unfolding octets_of_pairs
no_pairs digits octets = record { all = refl; octets_are = refl }

pub less_pairs : (digits octets : List ℕ) (at less : ℕ) → less ≤ at → 2 * at ≤ length digits → PairsSoFar digits octets at → PairsSoFar digits octets less
less_pairs digits octets at less few within so_far =
    let short = take-take (2 * less) (2 * at) digits (omega arith) in
    let whole : take (2 * less) (take (2 * at) digits) ++ drop (2 * less) (take (2 * at) digits) ≡ take (2 * at) digits = take-append-drop (2 * less) (take (2 * at) digits) in
    let size : length (take (2 * less) (take (2 * at) digits)) ≡ 2 * less = ap length short ∙ length-take-le (2 * less) digits (omega arith) in
    record {
      all = ap (list_all is_hex_digit) (sym short) ∙ list_all-front is_hex_digit (take (2 * less) (take (2 * at) digits)) (drop (2 * less) (take (2 * at) digits)) (ap (list_all is_hex_digit) whole ∙ so_far.all);
      octets_are = sym (take-take less at octets few) ∙ ap (take less) so_far.octets_are
          ∙ ap (λ (l : List ℕ). take less (octets_of_pairs l)) (sym whole)
          ∙ ap (take less) (pairs-append (take (2 * less) (take (2 * at) digits)) (drop (2 * less) (take (2 * at) digits)) less size)
          ∙ take_at _ _ less (length-pairs _ less size) ∙ ap octets_of_pairs short;
    }

pub more_pairs : (digits octets new : List ℕ) (at n : ℕ) → 2 * (at + n) ≤ length digits → PairsSoFar digits octets at
    → list_all is_hex_digit (chunk (2 * at) (2 * n) digits) ≡ true → IsPut octets new at (octets_of_pairs (chunk (2 * at) (2 * n) digits)) → PairsSoFar digits new (at + n)
more_pairs digits octets new at n within so_far all put =
    let v = chunk (2 * at) (2 * n) digits in
    let end : 2 * (at + n) ≡ 2 * at + 2 * n = omega arith in
    let whole : take (2 * (at + n)) digits ≡ take (2 * at) digits ++ v = ap (λ (k : ℕ). take k digits) end ∙ take-add (2 * at) (2 * n) digits in
    let size = length-pairs v n (length-chunk (2 * at) (2 * n) digits (omega arith)) in
    record {
      all = ap (list_all is_hex_digit) whole ∙ list_all-append is_hex_digit (take (2 * at) digits) v so_far.all all;
      octets_are = ap (λ (k : ℕ). take (at + k) new) (sym size) ∙ put.front ∙ ap (λ (l : List ℕ). l ++ octets_of_pairs v) so_far.octets_are
          ∙ sym (pairs-append (take (2 * at) digits) v at (length-take-le (2 * at) digits (omega arith))) ∙ ap octets_of_pairs (sym whole);
    }

pub all_pairs : (digits octets : List ℕ) (at : ℕ) → length octets ≤ at → length digits ≡ 2 * length octets → PairsSoFar digits octets at → HaveOctets digits octets
all_pairs digits octets at end room so_far =
    let whole = take_all (2 * at) digits (omega arith) in
    (ap (list_all is_hex_digit) (sym whole) ∙ so_far.all, sym (take_all at octets end) ∙ so_far.octets_are ∙ ap octets_of_pairs whole)

-- digits in pairs read as their octets
pub reads_pairs : (has_blanks : Bool) (at : ℕ) (digits : List ℕ) (n : ℕ) → length digits ≡ 2 * n → list_all is_hex_digit digits ≡ true
    → octets_from has_blanks None at digits ≡ Ok (octets_of_pairs digits)
unfolding octets_from octets_of_pairs
reads_pairs b at [] n even all = refl
reads_pairs b at (x ∷ []) n even all = absurd (omega (arith, even))
reads_pairs b at (x ∷ y ∷ digits) n even all =
    let first = and_parts (is_hex_digit x) _ all in
    let second = and_parts (is_hex_digit y) _ first.1 in
    cond-true (is_hex_digit x) _ _ first.0 ∙ cond-true (is_hex_digit y) _ _ second.0
    ∙ ap (in_front (number_of x * 16 + number_of y)) (reads_pairs b (at + 1 + 1) digits (n - 1) (omega (arith, even)) second.1)

pub read_whole : (has_blanks : Bool) (digits octets : List ℕ) → length octets ≡ length digits / 2 → length digits % 2 ≡ 0 → HaveOctets digits octets
    → Reads (octets_of has_blanks digits) (Ok (length octets)) octets
read_whole b digits octets half even have =
    let e : octets_of b digits ≡ Ok octets = reads_pairs b 0 digits (length octets) (omega arith) have.0 ∙ ap Ok (sym have.1) in
    rw e (refl, take_all (length octets) octets (omega arith))

-- ---- digits one by one

-- the number of a high digit that waits, where 255 says none
abbrev pub pending : ℕ → Option ℕ
pending high = cond (eqb high 255) None (Some high)

-- octets in front of what is read behind them
abbrev pub behind : List ℕ → Result (List ℕ) ℕ → Result (List ℕ) ℕ
behind front (Ok octets) = Ok (front ++ octets)
behind front (Err place) = Err place

behind-in_front : (front : List ℕ) (x : ℕ) (r : Result (List ℕ) ℕ) → behind front (in_front x r) ≡ behind (front ++ x ∷ []) r
behind-in_front front x (Ok octets) = ap Ok (sym (append_assoc front (x ∷ []) octets))
behind-in_front front x (Err place) = refl

behind-nil : (r : Result (List ℕ) ℕ) → r ≡ behind [] r
behind-nil (Ok octets) = refl
behind-nil (Err place) = refl

-- so many octets are read where a place is reached
pub record IsReadTo (has_blanks : Bool) (digits octets : List ℕ) (count high place : ℕ) : Type 0 where
  pub within : place ≤ length digits
  pub few : 2 * count ≤ place
  pub waits : high ≢ 255 → 2 * count + 1 ≤ place
  pub small : high ≢ 255 → high < 16
  pub read : octets_from has_blanks None 0 digits ≡ behind (take count octets) (octets_from has_blanks (pending high) place (drop place digits))

pub read_none : (b : Bool) (digits octets : List ℕ) → IsReadTo b digits octets 0 255 0
read_none b digits octets = record {
  within = omega arith;
  few = omega arith;
  waits = λ h. absurd (h refl);
  small = λ h. absurd (h refl);
  read = behind-nil (octets_from b None 0 digits);
}

-- the number of an octet, or 255
abbrev pub number_or : ℕ → ℕ
number_or x = unwrap_or (hex_digit_value x) 255

past_not : (a b : Bool) → a ≡ true → (not a || b) ≡ true → b ≡ true
past_not true b h e = e
past_not false b h e = absurd cc

pub digit_small : (x : ℕ) → x < 256 → number_or x ≢ 255 → (is_hex_digit x ≡ true) × (number_of x ≡ number_or x) × (number_or x < 16)
digit_small x h digit =
    let is : is_hex_digit x ≡ not (eqb (number_or x) 255) = agree_below_at is_hex_digit (λ x. not (eqb (number_or x) 255)) 256 x refl h in
    let yes : is_hex_digit x ≡ true = is ∙ ap not (ne_eqb (number_or x) 255 digit) in
    let both = and_parts (eqb (number_of x) (number_or x)) (ltb (number_or x) 16) (past_not (is_hex_digit x) _ yes
    (agree_below_at (λ x. not (is_hex_digit x) || (eqb (number_of x) (number_or x) && ltb (number_or x) 16)) (λ _. true) 256 x refl h)) in
    (yes, eqb-true _ _ both.0, ltb-true _ _ both.1)

pub digit_none : (x : ℕ) → x < 256 → number_or x ≡ 255 → is_hex_digit x ≡ false
digit_none x h none = agree_below_at is_hex_digit (λ x. not (eqb (number_or x) 255)) 256 x refl h ∙ ap not (eq-eqb (number_or x) 255 none)

pending_some : (high : ℕ) → high ≢ 255 → pending high ≡ Some high
pending_some high h = cond-false (eqb high 255) None (Some high) (ne_eqb high 255 h)

module _ (b : Bool) (digits octets : List ℕ) (count place : ℕ) (more : place < length digits) (byte : get_or digits place 0 < 256) where
  here : ℕ
  here = get_or digits place 0

  from_here : (high : Option ℕ) → octets_from b high place (drop place digits) ≡ octets_from b high place (get_or digits place 0 ∷ drop (place + 1) digits)
  from_here high = ap (octets_from b high place) (drop_more digits place 0 more)

  pub step_blank : IsReadTo b digits octets count 255 place → number_or (get_or digits place 0) ≡ 255 → (b && is_blank (get_or digits place 0)) ≡ true → IsReadTo b digits octets count 255 (place + 1)
  unfolding octets_from
  step_blank so_far none blank = record {
    within = omega arith;
    few = omega (arith, so_far.few);
    waits = λ h. absurd (h refl);
    small = λ h. absurd (h refl);
    read = so_far.read ∙ ap (behind (take count octets)) (from_here None ∙ cond-false (is_hex_digit (get_or digits place 0)) _ _ (digit_none _ byte none) ∙ cond-true _ _ _ blank);
  }

  pub step_first : IsReadTo b digits octets count 255 place → number_or (get_or digits place 0) ≢ 255 → IsReadTo b digits octets count (number_or (get_or digits place 0)) (place + 1)
  unfolding octets_from
  step_first so_far digit =
      let is = digit_small _ byte digit in
      record {
        within = omega arith;
        few = omega (arith, so_far.few);
        waits = λ h. omega (arith, so_far.few);
        small = λ h. is.2;
        read = so_far.read ∙ ap (behind (take count octets)) (from_here None ∙ cond-true (is_hex_digit (get_or digits place 0)) _ _ is.0
            ∙ ap (λ (o : Option ℕ). octets_from b o (place + 1) (drop (place + 1) digits)) (ap Some is.1 ∙ sym (pending_some _ digit)));
      }

  pub step_second : (high : ℕ) → IsReadTo b digits octets count high place → high ≢ 255 → number_or (get_or digits place 0) ≢ 255 → count < length octets
      → IsReadTo b digits (slice_set octets count (bit_or ((high * 2 ^ 4) % 256) (number_or (get_or digits place 0)))) (count + 1) 255 (place + 1)
  unfolding octets_from
  step_second high so_far waits digit room =
      let is = digit_small _ byte digit in
      let e : (high * 2 ^ 4) % 256 ≡ high * 2 ^ 4 = omega (arith, so_far.small waits) in
      let value : bit_or ((high * 2 ^ 4) % 256) (number_or (get_or digits place 0)) ≡ high * 16 + number_of (get_or digits place 0) =
      ap (λ (n : ℕ). bit_or n (number_or (get_or digits place 0))) e ∙ or_shifted high 4 (number_or (get_or digits place 0)) is.2 ∙ ap (λ (n : ℕ). high * 16 + n) (sym is.1) in
      record {
        within = omega arith;
        few = omega (arith, so_far.waits waits);
        waits = λ h. absurd (h refl);
        small = λ h. absurd (h refl);
        read = so_far.read ∙ ap (behind (take count octets)) (ap (λ (o : Option ℕ). octets_from b o place (drop place digits)) (pending_some high waits)
            ∙ from_here (Some high) ∙ cond-true (is_hex_digit (get_or digits place 0)) _ _ is.0)
            ∙ behind-in_front (take count octets) (high * 16 + number_of (get_or digits place 0)) _
            ∙ ap (λ (l : List ℕ). behind l (octets_from b None (place + 1) (drop (place + 1) digits)))
            (sym (take_more_set octets count _ room ∙ ap (λ (n : ℕ). take count octets ++ n ∷ []) value));
      }

  pub wrong_behind : (high : ℕ) → IsReadTo b digits octets count high place → high ≢ 255 → number_or (get_or digits place 0) ≡ 255 → Reads (octets_of b digits) (Err place) octets
  unfolding octets_from
  wrong_behind high so_far waits none =
      let e : octets_of b digits ≡ Err place = so_far.read ∙ ap (behind (take count octets)) (ap (λ (o : Option ℕ). octets_from b o place (drop place digits)) (pending_some high waits)
      ∙ from_here (Some high) ∙ cond-false (is_hex_digit (get_or digits place 0)) _ _ (digit_none _ byte none)) in
      rw e refl

  pub wrong_between : IsReadTo b digits octets count 255 place → number_or (get_or digits place 0) ≡ 255 → (b && is_blank (get_or digits place 0)) ≡ false → Reads (octets_of b digits) (Err place) octets
  unfolding octets_from
  wrong_between so_far none bad =
      let e : octets_of b digits ≡ Err place = so_far.read ∙ ap (behind (take count octets)) (from_here None
      ∙ cond-false (is_hex_digit (get_or digits place 0)) _ _ (digit_none _ byte none) ∙ cond-false _ _ _ bad) in
      rw e refl

pub read_end : (b : Bool) (digits octets : List ℕ) (count place : ℕ) → length digits ≤ place → length octets ≡ length digits / 2 → IsReadTo b digits octets count 255 place → Reads (octets_of b digits) (Ok count) octets
unfolding octets_from
read_end b digits octets count place end half so_far =
    let len : length (take count octets) ≡ count = length-take-le count octets (omega (arith, so_far.few, so_far.within)) in
    let e : octets_of b digits ≡ Ok (take count octets) = so_far.read ∙ ap (behind (take count octets)) (ap (octets_from b None place) (drop_all place digits end)) ∙ ap Ok (append-nil (take count octets)) in
    rw e (ap Ok (sym len), ap (λ (n : ℕ). take n octets) len)

pub read_cut : (b : Bool) (digits octets : List ℕ) (count high place : ℕ) → length digits ≤ place → high ≢ 255 → IsReadTo b digits octets count high place → Reads (octets_of b digits) (Err (length digits)) octets
unfolding octets_from
read_cut b digits octets count high place end waits so_far =
    let same : place ≡ length digits = omega (arith, so_far.within) in
    let e : octets_of b digits ≡ Err (length digits) = so_far.read ∙ ap (behind (take count octets)) (ap (λ (o : Option ℕ). octets_from b o place (drop place digits)) (pending_some high waits)
    ∙ ap (octets_from b (Some high) place) (drop_all place digits end)) ∙ ap Err same in
    rw e refl

-- no high digit waits
pub waits_none : {b : Bool} {digits octets : List ℕ} {count high place : ℕ} → high ≡ 255 → IsReadTo b digits octets count high place → IsReadTo b digits octets count 255 place
waits_none {b} {digits} {octets} {count} {high} {place} e so_far = let P : ℕ → Type 0 = λ h. IsReadTo b digits octets count h place in subst P e so_far

pub no_blank : (a b : Bool) → a ≡ false → (a && b) ≡ false
no_blank true b h = absurd cc
no_blank false b h = refl

-- ---- digits in pairs, one pair after another

or_full : (a b : ℕ) → a ≡ 255 → b < 256 → bit_or a b ≡ 255
or_full a b e h = omega (arith, e, le_or_l a b, or_of_8 a b (omega (arith, e)) h)

or_full_right : (a b : ℕ) → b ≡ 255 → a < 256 → bit_or a b ≡ 255
or_full_right a b e h = omega (arith, e, le_or_r a b, or_of_8 a b h (omega (arith, e)))

pub seen_parts : (seen high low : ℕ) → seen < 256 → high < 256 → low < 256 → bit_or seen (bit_or high low) ≢ 255 → (seen ≢ 255) × (high ≢ 255) × (low ≢ 255)
seen_parts seen high low s h l some =
    let both = or_of_8 high low h l in (
      λ e. some (or_full seen (bit_or high low) e both),
      λ e. some (or_full_right seen (bit_or high low) (or_full high low e l) s),
      λ e. some (or_full_right seen (bit_or high low) (or_full_right high low e h) s),
    )

pub one_pair : (digits octets : List ℕ) (at : ℕ) → at < length octets → 2 * (at + 1) ≤ length digits → get_or digits (2 * at) 0 < 256 → get_or digits (2 * at + 1) 0 < 256
    → number_or (get_or digits (2 * at) 0) ≢ 255 → number_or (get_or digits (2 * at + 1) 0) ≢ 255 → PairsSoFar digits octets at
    → PairsSoFar digits (slice_set octets at (bit_or ((number_or (get_or digits (2 * at) 0) * 2 ^ 4) % 256) (number_or (get_or digits (2 * at + 1) 0)))) (at + 1)
unfolding octets_of_pairs
one_pair digits octets at room within p q high low so_far =
    let x = get_or digits (2 * at) 0 in
    let y = get_or digits (2 * at + 1) 0 in
    let first = digit_small x p high in
    let second = digit_small y q low in
    let v = bit_or ((number_or x * 2 ^ 4) % 256) (number_or y) in
    let e : (number_or x * 2 ^ 4) % 256 ≡ number_or x * 2 ^ 4 = omega (arith, first.2) in
    let value : v ≡ number_of x * 16 + number_of y =
    ap (λ (n : ℕ). bit_or n (number_or y)) e ∙ or_shifted (number_or x) 4 (number_or y) second.2 ∙ ap (λ (n : ℕ). n * 16 + number_or y) (sym first.1) ∙ ap (λ (n : ℕ). number_of x * 16 + n) (sym second.1) in
    let two : chunk (2 * at) 2 digits ≡ x ∷ y ∷ [] = ap (take 2) (drop_more digits (2 * at) 0 (omega arith) ∙ ap (λ (l : List ℕ). x ∷ l) (drop_more digits (2 * at + 1) 0 (omega arith))) in
    let all : list_all is_hex_digit (chunk (2 * at) 2 digits) ≡ true = ap (list_all is_hex_digit) two ∙ and_from (is_hex_digit x) _ first.0 (and_from (is_hex_digit y) true second.0 refl) in
    let Q : List ℕ → Type 0 = λ l. IsPut octets (slice_set octets at v) at l in
    more_pairs digits octets (slice_set octets at v) at 1 within so_far all
    (subst Q (ap (λ (n : ℕ). n ∷ []) value ∙ ap octets_of_pairs (sym two)) (IsPut-set octets at v room))
