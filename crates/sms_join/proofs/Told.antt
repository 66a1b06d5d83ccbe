-- The sets in the order of their openings: the one list of them that rises.
use Rattle.std.proofs.Common.{◌≡◌, ◌≢◌, ℕ, zero, suc, ◌+◌, ◌<◌, ◌≤◌, ◌⊎◌, inl, inr, Bool, true, false, cond, ◌||◌, eqb, ltb, List, [], ◌∷◌, length, refl, sym, ap, ◌∙◌, subst, arith}
use Rattle.std.proofs.lemmas.Bool.{eqb-true, eqb-false, eq-eqb, ltb-true, ltb-false, or_parts}
use Rattle.std.proofs.lemmas.List.Sorted.{Contains-permutation, sum_by-IsPermutation, IsPermutation-sym}
use Rattle.std.specs.List.{Contains, sum_by, fold, slice_index_or}
use Rattle.std.specs.List.Sorted.{IsPermutation, IsNonDecreasingBy}
use Rattle.sms_join.specs.OpenSets.{SetValue}
use Rattle.sms_join.specs.Inside.Turns.{has_turn, AreApart, put_in, arranged}
use Rattle.sms_join.specs.OpenSets.Told.{AreAbove, RiseInTurn}

-- ---- one of a list

abbrev pub Among : SetValue → List SetValue → Type 0
Among s [] = ⊥
Among s (x ∷ xs) = (x ≡ s) ⊎ Among s xs

to_among : (xs : List SetValue) (y : SetValue) → Contains xs y → Among y xs
to_among xs y h = go xs h.0 h.1 h.2
  where
    go : (zs : List SetValue) (k : ℕ) → k < length zs → slice_index_or zs k y ≡ y → Among y zs
    go [] k l e = absurd (omega arith)
    go (z ∷ zs) zero l e = inl e
    go (z ∷ zs) (suc k) l e = inr (go zs k (omega arith) e)

from_among : (xs : List SetValue) (y : SetValue) → Among y xs → Contains xs y
from_among [] y h = absurd h
from_among (x ∷ xs) y (inl e) = (0, omega arith, e)
from_among (x ∷ xs) y (inr h) = let c = from_among xs y h in (suc c.0, (let l = c.1 in omega arith), c.2)

-- ---- lists that rise

above_lower : (n m : ℕ) (xs : List SetValue) → n < m → AreAbove m xs → AreAbove n xs
above_lower n m [] l h = tt
above_lower n m (x ∷ xs) l h = (let a = h.0 in omega arith, above_lower n m xs l h.1)

above_among : (n : ℕ) (xs : List SetValue) (s : SetValue) → AreAbove n xs → Among s xs → n < s.turn
above_among n [] s h a = absurd a
above_among n (x ∷ xs) s h (inl e) = subst (λ (y : SetValue). n < y.turn) e h.0
above_among n (x ∷ xs) s h (inr a) = above_among n xs s h.1 a

pub one_climbs : (xs ys : List SetValue) → RiseInTurn xs → RiseInTurn ys → ((s : SetValue) → Among s xs → Among s ys) → ((s : SetValue) → Among s ys → Among s xs) → xs ≡ ys
one_climbs [] [] h k f g = refl
one_climbs [] (y ∷ ys) h k f g = absurd (g y (inl refl))
one_climbs (x ∷ xs) [] h k f g = absurd (f x (inl refl))
one_climbs (x ∷ xs) (y ∷ ys) h k f g = λ i. same i ∷ one_climbs xs ys h.1 k.1 there back i
  where
    heads : (y ≡ x) ⊎ Among x ys → (x ≡ y) ⊎ Among y xs → x ≡ y
    heads (inl e) b = sym e
    heads (inr a) (inl e) = e
    heads (inr a) (inr b) =
        let l = above_among y.turn ys x k.0 a in
        let m = above_among x.turn xs y h.0 b in
        absurd (omega arith)

    same : x ≡ y
    same = heads (f x (inl refl)) (g y (inl refl))

    turns : x.turn ≡ y.turn
    turns = ap (λ (s : SetValue). s.turn) same

    there : (s : SetValue) → Among s xs → Among s ys
    there s a = elim (f s (inr a)) [
      | inl e ↦ (let l = above_among x.turn xs s h.0 a in let t : y.turn ≡ s.turn = ap (λ (z : SetValue). z.turn) e in let u = turns in absurd (omega arith))
      | inr b ↦ b
    ]

    back : (s : SetValue) → Among s ys → Among s xs
    back s a = elim (g s (inr a)) [
      | inl e ↦ (let l = above_among y.turn ys s k.0 a in let t : x.turn ≡ s.turn = ap (λ (z : SetValue). z.turn) e in let u = turns in absurd (omega arith))
      | inr b ↦ b
    ]

-- ---- the arranged list

put_among : (x : SetValue) (ts : List SetValue) (s : SetValue) → Among s (put_in x ts) → (x ≡ s) ⊎ Among s ts
put_among x [] s a = a
put_among x (t ∷ ts) s a = go (ltb x.turn t.turn) a (put_among x ts s)
  where
    go : (b : Bool) → Among s (cond b (x ∷ t ∷ ts) (t ∷ put_in x ts)) → (Among s (put_in x ts) → (x ≡ s) ⊎ Among s ts) → (x ≡ s) ⊎ ((t ≡ s) ⊎ Among s ts)
    go true a ih = a
    go false (inl e) ih = inr (inl e)
    go false (inr a) ih = elim (ih a) [
      | inl e ↦ inl e
      | inr b ↦ inr (inr b)
    ]

among_put : (x : SetValue) (ts : List SetValue) (s : SetValue) → (x ≡ s) ⊎ Among s ts → Among s (put_in x ts)
among_put x [] s a = a
among_put x (t ∷ ts) s a = go (ltb x.turn t.turn) a (among_put x ts s)
  where
    go : (b : Bool) → (x ≡ s) ⊎ ((t ≡ s) ⊎ Among s ts) → ((x ≡ s) ⊎ Among s ts → Among s (put_in x ts)) → Among s (cond b (x ∷ t ∷ ts) (t ∷ put_in x ts))
    go true a ih = a
    go false (inl e) ih = inr (ih (inl e))
    go false (inr (inl e)) ih = inl e
    go false (inr (inr a)) ih = inr (ih (inr a))

pub arranged_among : (ss : List SetValue) (s : SetValue) → Among s (arranged ss) → Among s ss
arranged_among [] s a = a
arranged_among (x ∷ ss) s a = elim (put_among x (arranged ss) s a) [
  | inl e ↦ inl e
  | inr b ↦ inr (arranged_among ss s b)
]

pub among_arranged : (ss : List SetValue) (s : SetValue) → Among s ss → Among s (arranged ss)
among_arranged [] s a = a
among_arranged (x ∷ ss) s (inl e) = among_put x (arranged ss) s (inl e)
among_arranged (x ∷ ss) s (inr a) = among_put x (arranged ss) s (inr (among_arranged ss s a))

or_exchanged : (a b c : Bool) → (a || (b || c)) ≡ (b || (a || c))
or_exchanged true true c = refl
or_exchanged true false c = refl
or_exchanged false true c = refl
or_exchanged false false c = refl

put_turn : (s : SetValue) (ts : List SetValue) (n : ℕ) → has_turn (put_in s ts) n ≡ has_turn (s ∷ ts) n
put_turn s [] n = refl
put_turn s (t ∷ ts) n = go (ltb s.turn t.turn) (put_turn s ts n)
  where
    go : (b : Bool) → has_turn (put_in s ts) n ≡ has_turn (s ∷ ts) n → has_turn (cond b (s ∷ t ∷ ts) (t ∷ put_in s ts)) n ≡ has_turn (s ∷ t ∷ ts) n
    go true ih = refl
    go false ih = ap (λ (b : Bool). eqb t.turn n || b) ih ∙ or_exchanged (eqb t.turn n) (eqb s.turn n) (has_turn ts n)

arranged_turn : (ss : List SetValue) (n : ℕ) → has_turn (arranged ss) n ≡ has_turn ss n
arranged_turn [] n = refl
arranged_turn (s ∷ ss) n = put_turn s (arranged ss) n ∙ ap (λ (b : Bool). eqb s.turn n || b) (arranged_turn ss n)

above_put : (n : ℕ) (s : SetValue) (ts : List SetValue) → n < s.turn → AreAbove n ts → AreAbove n (put_in s ts)
above_put n s [] l h = (l, tt)
above_put n s (t ∷ ts) l h = go (ltb s.turn t.turn) (above_put n s ts l h.1)
  where
    go : (b : Bool) → AreAbove n (put_in s ts) → AreAbove n (cond b (s ∷ t ∷ ts) (t ∷ put_in s ts))
    go true ih = (l, h)
    go false ih = (h.0, ih)

climbs_put : (s : SetValue) (ts : List SetValue) → RiseInTurn ts → has_turn ts s.turn ≡ false → RiseInTurn (put_in s ts)
climbs_put s [] h o = (tt, tt)
climbs_put s (t ∷ ts) h o = go (ltb s.turn t.turn) refl (climbs_put s ts h.1 q.1)
  where
    q : (eqb t.turn s.turn ≡ false) × (has_turn ts s.turn ≡ false)
    q = or_parts (eqb t.turn s.turn) (has_turn ts s.turn) o

    go : (b : Bool) → ltb s.turn t.turn ≡ b → RiseInTurn (put_in s ts) → RiseInTurn (cond b (s ∷ t ∷ ts) (t ∷ put_in s ts))
    go true e ih = let l = ltb-true s.turn t.turn e in ((l, above_lower s.turn t.turn ts l h.0), h)
    go false e ih =
        let l = ltb-false s.turn t.turn e in
        let ne : t.turn ≢ s.turn = eqb-false t.turn s.turn q.0 in
        (above_put t.turn s ts (less t.turn s.turn l ne) h.0, ih)
      where
        less : (a b : ℕ) → a ≤ b → a ≢ b → a < b
        less a b l ne = omega arith

pub arranged_climbs : (ss : List SetValue) → AreApart ss → RiseInTurn (arranged ss)
arranged_climbs [] h = tt
arranged_climbs (s ∷ ss) h = climbs_put s (arranged ss) (arranged_climbs ss h.1) (arranged_turn ss s.turn ∙ h.0)

-- ---- a sorted list

-- how many have the number
abbrev counted : ℕ → SetValue → ℕ
counted n s = cond (eqb s.turn n) 1 0

abbrev count : ℕ → List SetValue → ℕ
count n [] = 0
count n (x ∷ xs) = counted n x + count n xs

none_counted : (n : ℕ) (xs : List SetValue) → has_turn xs n ≡ false → count n xs ≡ 0
none_counted n [] h = refl
none_counted n (x ∷ xs) h =
    let q = or_parts (eqb x.turn n) (has_turn xs n) h in
    rw (q.0, none_counted n xs q.1) refl

some_counted : (n : ℕ) (xs : List SetValue) → has_turn xs n ≡ true → 0 < count n xs
some_counted n [] h = cc
some_counted n (x ∷ xs) h = go (eqb x.turn n) h (some_counted n xs)
  where
    go : (b : Bool) → (b || has_turn xs n) ≡ true → (has_turn xs n ≡ true → 0 < count n xs) → 0 < cond b 1 0 + count n xs
    go true h ih = omega arith
    go false h ih = let z = ih h in omega arith

few_counted : (n : ℕ) (xs : List SetValue) → AreApart xs → count n xs ≤ 1
few_counted n [] h = omega arith
few_counted n (x ∷ xs) h = go (eqb x.turn n) refl (few_counted n xs h.1)
  where
    go : (b : Bool) → eqb x.turn n ≡ b → count n xs ≤ 1 → cond b 1 0 + count n xs ≤ 1
    go true e ih = let z = none_counted n xs (ap (has_turn xs) (sym (eqb-true x.turn n e)) ∙ h.0) in omega arith
    go false e ih = omega arith

apart_counted : (xs : List SetValue) → ((n : ℕ) → count n xs ≤ 1) → AreApart xs
apart_counted [] h = tt
apart_counted (x ∷ xs) h = (alone (has_turn xs x.turn) refl, apart_counted xs (λ n. let a = h n in fewer (counted n x) (count n xs) a))
  where
    fewer : (a b : ℕ) → a + b ≤ 1 → b ≤ 1
    fewer a b l = omega arith

    alone : (b : Bool) → has_turn xs x.turn ≡ b → b ≡ false
    alone false e = refl
    alone true e =
        let a = h x.turn in
        let c : counted x.turn x ≡ 1 = rw (eq-eqb x.turn x.turn refl) refl in
        let d = some_counted x.turn xs e in
        absurd (omega arith)

count_is : (n : ℕ) (xs : List SetValue) → sum_by (counted n) xs ≡ count n xs
count_is n xs = go 0 xs ∙ zero_more (count n xs)
  where
    zero_more : (a : ℕ) → 0 + a ≡ a
    zero_more a = omega arith

    go : (a : ℕ) (zs : List SetValue) → fold (λ b x. b + counted n x) a zs ≡ a + count n zs
    go a [] = omega arith
    go a (z ∷ zs) = let e = go (a + counted n z) zs in omega arith

apart_permuted : (xs ys : List SetValue) → IsPermutation xs ys → AreApart xs → AreApart ys
apart_permuted xs ys p h =
    apart_counted ys (λ n. let e : count n ys ≡ count n xs = sym (count_is n ys) ∙ (sum_by-IsPermutation (counted n) xs ys p ∙ count_is n xs) in let l = few_counted n xs h in omega arith)

sorted_climbs : (xs : List SetValue) → AreApart xs → IsNonDecreasingBy (λ (s : SetValue). s.turn) xs → RiseInTurn xs
sorted_climbs [] a h = tt
sorted_climbs (x ∷ []) a h = (tt, tt)
sorted_climbs (x ∷ y ∷ r) a h =
    let rest = sorted_climbs (y ∷ r) a.1 (λ i j d l m. h (suc i) (suc j) d (omega arith) (omega arith)) in
    let low = h 0 1 x (omega arith) (omega arith) in
    let q = or_parts (eqb y.turn x.turn) (has_turn r x.turn) a.0 in
    let ne : y.turn ≢ x.turn = eqb-false y.turn x.turn q.0 in
    let less : x.turn < y.turn = below x.turn y.turn low ne in
    ((less, above_lower x.turn y.turn r less rest.0), rest)
  where
    below : (a b : ℕ) → a ≤ b → b ≢ a → a < b
    below a b l ne = omega arith

-- whatever sorts the sets by the numbers of their openings, arranges them
pub sorted_is_arranged : (ss ts : List SetValue) → AreApart ss → IsPermutation ss ts → IsNonDecreasingBy (λ (s : SetValue). s.turn) ts → ts ≡ arranged ss
sorted_is_arranged ss ts a p h =
    one_climbs ts (arranged ss) (sorted_climbs ts (apart_permuted ss ts p a) h) (arranged_climbs ss a)
    (λ s m. among_arranged ss s (to_among ss s (Contains-permutation ts ss s (IsPermutation-sym ss ts p) (from_among ts s m))))
    (λ s m. to_among ts s (Contains-permutation ss ts s p (from_among ss s (arranged_among ss s m))))
