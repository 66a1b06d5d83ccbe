-- Lists of sequences that rise.
use Rattle.std.proofs.Common.{◌≡◌, ◌≢◌, ℕ, zero, suc, ◌+◌, ◌<◌, ◌≤◌, Bool, true, false, cond, ◌||◌, eqb, ltb, List, [], ◌∷◌, length, get_or, refl, ap, arith}
use Rattle.std.proofs.lemmas.Bool.{eqb-true, eq-eqb, eqb-false, ne_eqb, or_parts, ltb-true, ltb-false, lt-ltb, le-ltb}
use Rattle.std.specs.List.{insert}
use Rattle.sms_join.specs.OpenSets.{is_in, Rises, place_of}

pub rises_length : (low : ℕ) (ns : List ℕ) (high : ℕ) → Rises low ns high → low + length ns ≤ high
rises_length low [] high h = omega arith
rises_length low (n ∷ ns) high h = let e = rises_length n ns high h.1 in omega arith

pub rises_above : (low : ℕ) (ns : List ℕ) (high n : ℕ) → Rises low ns high → is_in n ns ≡ true → low < n
rises_above low [] high n h i = cc
rises_above low (m ∷ ms) high n h i = go (eqb m n) refl i (rises_above m ms high n h.1)
  where
    go : (b : Bool) → eqb m n ≡ b → (b || is_in n ms) ≡ true → (is_in n ms ≡ true → m < n) → low < n
    go true e i ih = let f : m ≡ n = eqb-true m n e in omega arith
    go false e i ih = let f = ih i in omega arith

pub not_below : (low : ℕ) (ns : List ℕ) (high n : ℕ) → Rises low ns high → n ≤ low → is_in n ns ≡ false
not_below low ns high n h l = go (is_in n ns) refl
  where
    go : (b : Bool) → is_in n ns ≡ b → is_in n ns ≡ false
    go true e = let f = rises_above low ns high n h e in absurd (omega arith)
    go false e = e

pub rises_at : (low : ℕ) (ns : List ℕ) (high j : ℕ) → Rises low ns high → j < length ns → low < get_or ns j 0
rises_at low [] high j h l = absurd (omega arith)
rises_at low (n ∷ ns) high zero h l = h.0
rises_at low (n ∷ ns) high (suc j) h l = let e = rises_at n ns high j h.1 (omega arith) in omega arith

pub rises_ordered : (low : ℕ) (ns : List ℕ) (high i j : ℕ) → Rises low ns high → i ≤ j → j < length ns → get_or ns i 0 ≤ get_or ns j 0
rises_ordered low [] high i j h a b = absurd (omega arith)
rises_ordered low (n ∷ ns) high zero zero h a b = omega arith
rises_ordered low (n ∷ ns) high zero (suc j) h a b = let e = rises_at n ns high j h.1 (omega arith) in omega arith
rises_ordered low (n ∷ ns) high (suc i) zero h a b = absurd (omega arith)
rises_ordered low (n ∷ ns) high (suc i) (suc j) h a b = rises_ordered n ns high i j h.1 (omega arith) (omega arith)

pub found_is_in : (ns : List ℕ) (i n : ℕ) → i < length ns → get_or ns i 0 ≡ n → is_in n ns ≡ true
found_is_in [] i n l e = absurd (omega arith)
found_is_in (m ∷ ms) zero n l e = rw (eq-eqb m n e) refl
found_is_in (m ∷ ms) (suc i) n l e = go (eqb m n) (found_is_in ms i n (omega arith) e)
  where
    go : (b : Bool) → is_in n ms ≡ true → (b || is_in n ms) ≡ true
    go true h = refl
    go false h = h

-- a place with smaller numbers before it and greater ones from it on
pub record IsGap (ns : List ℕ) (n i : ℕ) : Type 0 where
  pub within : i ≤ length ns
  pub less : (k : ℕ) → k < i → get_or ns k 0 < n
  pub greater : (k : ℕ) → i ≤ k → k < length ns → n < get_or ns k 0

gap_later : (m : ℕ) (ms : List ℕ) (n i : ℕ) → IsGap (m ∷ ms) n (suc i) → IsGap ms n i
gap_later m ms n i h =
    record { within = let w = h.within in omega arith; less = λ k l. h.less (suc k) (omega arith); greater = λ k a b. h.greater (suc k) (omega arith) (omega arith) }

gap_front : (m : ℕ) (ms : List ℕ) (n : ℕ) → IsGap (m ∷ ms) n 0 → IsGap ms n 0
gap_front m ms n h =
    record { within = omega arith; less = λ k l. absurd (omega arith); greater = λ k a b. h.greater (suc k) (omega arith) (omega arith) }

pub gap_not_in : (ns : List ℕ) (n i : ℕ) → IsGap ns n i → is_in n ns ≡ false
gap_not_in [] n i h = refl
gap_not_in (m ∷ ms) n zero h =
    let f : n < m = h.greater 0 (omega arith) (omega arith) in
    rw (ne_eqb m n (λ e. omega arith), gap_not_in ms n 0 (gap_front m ms n h)) refl
gap_not_in (m ∷ ms) n (suc i) h =
    let f : m < n = h.less 0 (omega arith) in
    rw (ne_eqb m n (λ e. omega arith), gap_not_in ms n i (gap_later m ms n i h)) refl

pub gap_place : (ns : List ℕ) (n i : ℕ) → IsGap ns n i → i ≡ place_of n ns
gap_place [] n i h = let w = h.within in omega arith
gap_place (m ∷ ms) n zero h =
    let f : n < m = h.greater 0 (omega arith) (omega arith) in
    rw (le-ltb m n (omega arith)) refl
gap_place (m ∷ ms) n (suc i) h =
    let f : m < n = h.less 0 (omega arith) in
    rw (lt-ltb m n f) (ap suc (gap_place ms n i (gap_later m ms n i h)))

pub place_within : (n : ℕ) (ns : List ℕ) → place_of n ns ≤ length ns
place_within n [] = omega arith
place_within n (m ∷ ms) = go (ltb m n) (place_within n ms)
  where
    go : (b : Bool) → place_of n ms ≤ length ms → cond b (suc (place_of n ms)) 0 ≤ suc (length ms)
    go true h = omega arith
    go false h = omega arith

pub rises_insert : (low : ℕ) (ns : List ℕ) (high n : ℕ) → Rises low ns high → low < n → n ≤ high → is_in n ns ≡ false
    → Rises low (insert ns (place_of n ns) n) high
rises_insert low [] high n h a b i = (a, b)
rises_insert low (m ∷ ms) high n h a b i = go (ltb m n) refl (or_parts (eqb m n) (is_in n ms) i) (rises_insert m ms high n h.1)
  where
    go : (c : Bool) → ltb m n ≡ c → (eqb m n ≡ false) × (is_in n ms ≡ false)
        → (m < n → n ≤ high → is_in n ms ≡ false → Rises m (insert ms (place_of n ms) n) high)
        → Rises low (insert (m ∷ ms) (cond c (suc (place_of n ms)) 0) n) high
    go true e p ih = (h.0, ih (ltb-true m n e) b p.1)
    go false e p ih =
        let f : n ≤ m = ltb-false m n e in
        let g : m ≢ n = eqb-false m n p.0 in
        (a, (omega arith, h.1))

pub length-insert : {X : Type 0} (xs : List X) (i : ℕ) (x : X) → i ≤ length xs → length (insert xs i x) ≡ suc (length xs)
length-insert [] zero x h = refl
length-insert [] (suc i) x h = absurd (omega arith)
length-insert (y ∷ ys) zero x h = refl
length-insert (y ∷ ys) (suc i) x h = ap suc (length-insert ys i x (omega arith))
