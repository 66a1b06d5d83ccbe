-- The first old set from a number of opening on, among sets that stand in order of opening.
use Rattle.std.proofs.Common.{◌≡◌, ℕ, suc, ◌+◌, ◌<◌, ◌≤◌, ◌⊎◌, inl, inr, Bool, true, false, cond, leb, List, [], ◌∷◌, slice_get, Some, None, refl, sym, ap, ◌∙◌, subst, arith}
use Rattle.std.proofs.lemmas.Bool.{leb-true, leb-false, le-leb}
use Rattle.sms_join.specs.declared.age.Age.{Age}
use Rattle.sms_join.specs.OpenSets.{SetValue}
use Rattle.sms_join.specs.OpenSets.Told.{AreAbove, RiseInTurn, first_from}
use Rattle.sms_join.specs.Inside.Ages.{old_of}
use Rattle.sms_join.specs.Inside.Lines.{AreInTime}
use Rattle.sms_join.specs.Inside.Turns.{AreBefore, arranged}
use Rattle.sms_join.proofs.Told.{Among, arranged_among}

-- whether a set is old
abbrev pub is_old : Age → SetValue → Bool
is_old age s = leb (s.opened + age.longest) age.now

some_same : {X : Type 0} (x y : X) → Some x ≡ Some y → x ≡ y
some_same x y e = cc

not_some : {X : Type 0} (x : X) → Some x ≡ None → ⊥
not_some x e = cc

-- a number is not at most another one where it is above it
above_leb : (n m : ℕ) → m < n → leb n m ≡ false
above_leb n m l = go (leb n m) refl
  where
    go : (b : Bool) → leb n m ≡ b → b ≡ false
    go false e = refl
    go true e = let k = leb-true n m e in absurd (omega arith)

-- ---- the set that is found is one of them

first_among : (n : ℕ) (ss : List SetValue) (s : SetValue) → first_from n ss ≡ Some s → Among s ss
first_among n [] s e = absurd cc
first_among n (x ∷ ss) s e = go (leb n x.turn) e (first_among n ss s)
  where
    go : (b : Bool) → cond b (Some x) (first_from n ss) ≡ Some s → (first_from n ss ≡ Some s → Among s ss) → (x ≡ s) ⊎ Among s ss
    go true f ih = inl (some_same x s f)
    go false f ih = inr (ih f)

before_among : (t : ℕ) (ss : List SetValue) (s : SetValue) → AreBefore t ss → Among s ss → s.turn < t
before_among t [] s h a = absurd a
before_among t (x ∷ ss) s h (inl e) = subst (λ (y : SetValue). y.turn < t) e h.0
before_among t (x ∷ ss) s h (inr a) = before_among t ss s h.1 a

-- of the openings so far
pub found_before : (t n : ℕ) (ss : List SetValue) (s : SetValue) → AreBefore t ss → first_from n (arranged ss) ≡ Some s → s.turn < t
found_before t n ss s h e = before_among t ss s h (arranged_among ss s (first_among n (arranged ss) s e))

-- and not before the number
pub found_from : (n : ℕ) (ss : List SetValue) (s : SetValue) → first_from n ss ≡ Some s → n ≤ s.turn
found_from n [] s e = absurd cc
found_from n (x ∷ ss) s e = go (leb n x.turn) refl e (found_from n ss s)
  where
    go : (b : Bool) → leb n x.turn ≡ b → cond b (Some x) (first_from n ss) ≡ Some s → (first_from n ss ≡ Some s → n ≤ s.turn) → n ≤ s.turn
    go true l f ih = subst (λ (y : SetValue). n ≤ y.turn) (some_same x s f) (leb-true n x.turn l)
    go false l f ih = ih f

-- ---- none is found

pub none_old : (n : ℕ) (age : Age) (ss : List SetValue) → first_from n ss ≡ None → first_from n (old_of age ss) ≡ None
none_old n age [] e = refl
none_old n age (x ∷ ss) e = go (leb n x.turn) refl e (none_old n age ss)
  where
    go : (b : Bool) → leb n x.turn ≡ b → cond b (Some x) (first_from n ss) ≡ None → (first_from n ss ≡ None → first_from n (old_of age ss) ≡ None) → first_from n (old_of age (x ∷ ss)) ≡ None
    go true l f ih = absurd (not_some x f)
    go false l f ih = which (is_old age x)
      where
        which : (b : Bool) → first_from n (cond b (x ∷ old_of age ss) (old_of age ss)) ≡ None
        which true = ap (λ b. cond b (Some x) (first_from n (old_of age ss))) l ∙ ih f
        which false = ih f

-- ---- one is found that is old

pub one_old : (n : ℕ) (age : Age) (ss : List SetValue) (s : SetValue) → first_from n ss ≡ Some s → is_old age s ≡ true → first_from n (old_of age ss) ≡ Some s
one_old n age [] s e o = absurd cc
one_old n age (x ∷ ss) s e o = go (leb n x.turn) refl e (λ f. one_old n age ss s f o)
  where
    go : (b : Bool) → leb n x.turn ≡ b → cond b (Some x) (first_from n ss) ≡ Some s → (first_from n ss ≡ Some s → first_from n (old_of age ss) ≡ Some s) → first_from n (old_of age (x ∷ ss)) ≡ Some s
    go true l f ih =
        let same = some_same x s f in
        ap (λ b. first_from n (cond b (x ∷ old_of age ss) (old_of age ss))) (ap (is_old age) same ∙ o)
        ∙ (ap (λ b. cond b (Some x) (first_from n (old_of age ss))) l ∙ f)
    go false l f ih = which (is_old age x)
      where
        which : (b : Bool) → first_from n (cond b (x ∷ old_of age ss) (old_of age ss)) ≡ Some s
        which true = ap (λ b. cond b (Some x) (first_from n (old_of age ss))) l ∙ ih f
        which false = ih f

-- ---- one is found that is young

above_old : (k : ℕ) (age : Age) (ss : List SetValue) → AreAbove k ss → AreAbove k (old_of age ss)
above_old k age [] h = tt
above_old k age (x ∷ ss) h = go (is_old age x) (above_old k age ss h.1)
  where
    go : (b : Bool) → AreAbove k (old_of age ss) → AreAbove k (cond b (x ∷ old_of age ss) (old_of age ss))
    go true r = (h.0, r)
    go false r = r

-- from any number up to that of the opening after k, the first one is found
from_above : (k n m : ℕ) (ss : List SetValue) → AreAbove k ss → n ≤ suc k → m ≤ suc k → first_from n ss ≡ first_from m ss
from_above k n m [] h a b = refl
from_above k n m (x ∷ ss) h a b =
    let l = h.0 in
    ap (λ c. cond c (Some x) (first_from n ss)) (le-leb n x.turn (omega arith))
    ∙ sym (ap (λ c. cond c (Some x) (first_from m ss)) (le-leb m x.turn (omega arith)))

pub one_young : (n : ℕ) (age : Age) (ss : List SetValue) (s : SetValue) → RiseInTurn ss → first_from n ss ≡ Some s → is_old age s ≡ false
    → first_from n (old_of age ss) ≡ first_from (s.turn + 1) (old_of age ss)
one_young n age [] s h e o = absurd cc
one_young n age (x ∷ ss) s h e o = go (leb n x.turn) refl e (λ f. one_young n age ss s h.1 f o)
  where
    go : (b : Bool) → leb n x.turn ≡ b → cond b (Some x) (first_from n ss) ≡ Some s
        → (first_from n ss ≡ Some s → first_from n (old_of age ss) ≡ first_from (s.turn + 1) (old_of age ss))
        → first_from n (old_of age (x ∷ ss)) ≡ first_from (s.turn + 1) (old_of age (x ∷ ss))
    go true l f ih =
        let same = some_same x s f in
        let turn : x.turn ≡ s.turn = ap (λ (y : SetValue). y.turn) same in
        let low = leb-true n x.turn l in
        subst (λ b. first_from n (cond b (x ∷ old_of age ss) (old_of age ss)) ≡ first_from (s.turn + 1) (cond b (x ∷ old_of age ss) (old_of age ss)))
        (sym (ap (is_old age) same ∙ o))
        (from_above x.turn n (s.turn + 1) (old_of age ss) (above_old x.turn age ss h.0) (omega arith) (omega arith))
    go false l f ih = which (is_old age x)
      where
        low : n ≤ s.turn
        low = found_from n ss s f

        under : x.turn < n
        under = leb-false n x.turn l

        which : (b : Bool) → first_from n (cond b (x ∷ old_of age ss) (old_of age ss)) ≡ first_from (s.turn + 1) (cond b (x ∷ old_of age ss) (old_of age ss))
        which true =
            ap (λ b. cond b (Some x) (first_from n (old_of age ss))) l
            ∙ (ih f
            ∙ sym (ap (λ b. cond b (Some x) (first_from (s.turn + 1) (old_of age ss))) (above_leb (s.turn + 1) x.turn (let a = low in let b = under in omega arith))))
        which false = ih f

-- ---- one is found that is young, and those after it were opened no earlier

none_among : (age : Age) (ss : List SetValue) → ((t : SetValue) → Among t ss → is_old age t ≡ false) → old_of age ss ≡ []
none_among age [] h = refl
none_among age (x ∷ ss) h =
    ap (λ b. cond b (x ∷ old_of age ss) (old_of age ss)) (h x (inl refl)) ∙ none_among age ss (λ t a. h t (inr a))

later_young : (age : Age) (s t : SetValue) → is_old age s ≡ false → s.opened ≤ t.opened → is_old age t ≡ false
later_young age s t o l = go (is_old age t) refl
  where
    go : (b : Bool) → is_old age t ≡ b → b ≡ false
    go false e = refl
    go true e = let k = leb-true (t.opened + age.longest) age.now e in let wrong : true ≡ false = sym (le-leb (s.opened + age.longest) age.now (omega arith)) ∙ o in absurd cc

above_in : (n : ℕ) (ss : List SetValue) (s : SetValue) → AreAbove n ss → Among s ss → n < s.turn
above_in n [] s h a = absurd a
above_in n (x ∷ ss) s h (inl e) = subst (λ (y : SetValue). n < y.turn) e h.0
above_in n (x ∷ ss) s h (inr a) = above_in n ss s h.1 a

rest_young : (n : ℕ) (age : Age) (ss : List SetValue) (s : SetValue) → RiseInTurn ss → first_from n ss ≡ Some s → is_old age s ≡ false
    → ((t : SetValue) → Among t ss → s.turn < t.turn → s.opened ≤ t.opened) → first_from n (old_of age ss) ≡ None
rest_young n age [] s h e o later = absurd cc
rest_young n age (x ∷ ss) s h e o later = go (leb n x.turn) refl e (λ f. rest_young n age ss s h.1 f o (λ t a. later t (inr a)))
  where
    go : (b : Bool) → leb n x.turn ≡ b → cond b (Some x) (first_from n ss) ≡ Some s → (first_from n ss ≡ Some s → first_from n (old_of age ss) ≡ None) → first_from n (old_of age (x ∷ ss)) ≡ None
    go true l f ih =
        let same = some_same x s f in
        ap (λ b. first_from n (cond b (x ∷ old_of age ss) (old_of age ss))) (ap (is_old age) same ∙ o)
        ∙ ap (first_from n) (none_among age ss (λ t a. later_young age s t o
        (later t (inr a) (subst (λ (y : SetValue). y.turn < t.turn) same (above_in x.turn ss t h.0 a)))))
    go false l f ih = which (is_old age x)
      where
        which : (b : Bool) → first_from n (cond b (x ∷ old_of age ss) (old_of age ss)) ≡ None
        which true = ap (λ b. cond b (Some x) (first_from n (old_of age ss))) l ∙ ih f
        which false = ih f

got_in : (ss : List SetValue) (s : SetValue) → Among s ss → (i : ℕ) × (slice_get ss i ≡ Some s)
got_in [] s a = absurd a
got_in (x ∷ ss) s (inl e) = (0, ap (λ (v : SetValue). Some v) e)
got_in (x ∷ ss) s (inr a) = let h = got_in ss s a in (suc h.0, h.1)

pub in_time_young : (t latest n : ℕ) (age : Age) (ss : List SetValue) (s : SetValue) → RiseInTurn (arranged ss) → AreInTime latest ss → first_from n (arranged ss) ≡ Some s → is_old age s ≡ false
    → first_from n (old_of age (arranged ss)) ≡ None
in_time_young t latest n age ss s rise time e o =
    rest_young n age (arranged ss) s rise e o
    (λ u a l. let i = got_in ss s (arranged_among ss s (first_among n (arranged ss) s e)) in
    let j = got_in ss u (arranged_among ss u a) in
    time.order i.0 j.0 s u i.1 j.1 l)
