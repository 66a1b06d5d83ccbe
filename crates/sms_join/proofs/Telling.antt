-- Walking the line of openings tells the open sets in the order in which they were opened.
use Rattle.std.proofs.Common.{◌≡◌, ℕ, zero, suc, ◌+◌, ◌<◌, ◌≤◌, inl, inr, Bool, true, false, cond, leb, eqb, List, [], ◌∷◌, drop, length, get_or, slice_get, Option, Some, None, refl, sym, ap, ◌∙◌, subst, arith}
use Rattle.std.proofs.lemmas.Bool.{eqb-true, eq-eqb, le-leb, leb-true}
use Rattle.sms_join.specs.declared.line.Opening.{Opening}
use Rattle.sms_join.specs.OpenSets.{SetValue}
use Rattle.sms_join.specs.OpenSets.Told.{AreAbove, RiseInTurn, first_from}
use Rattle.sms_join.specs.Inside.Turns.{arranged}
use Rattle.sms_join.specs.Inside.Lines.{AreAfter, Climbs, AreFrom, Splits, IsNoted, has_number, lies, of_number, walked, InLine}
use Rattle.sms_join.proofs.InLine.{opening}
use Rattle.sms_join.proofs.Told.{Among, one_climbs, arranged_among, among_arranged, arranged_climbs}

some_same : {X : Type 0} (x y : X) → Some x ≡ Some y → x ≡ y
some_same x y e = cc

above_walked : (n : ℕ) (ss : List SetValue) (os : List Opening) → AreAfter n os → AreAbove n (walked ss os)
above_walked n ss [] h = tt
above_walked n ss (o ∷ os) h = go (slice_get ss o.index) (above_walked n ss os h.1)
  where
    go : (r : Option SetValue) → AreAbove n (walked ss os) → AreAbove n (of_number r o.turn (walked ss os))
    go None ih = ih
    go (Some s) ih = which (eqb s.turn o.turn) refl
      where
        which : (b : Bool) → eqb s.turn o.turn ≡ b → AreAbove n (cond b (s ∷ walked ss os) (walked ss os))
        which true e = (subst (λ k. n < k) (sym (eqb-true s.turn o.turn e)) h.0, ih)
        which false e = ih

rise_walked : (ss : List SetValue) (os : List Opening) → Climbs os → RiseInTurn (walked ss os)
rise_walked ss [] h = tt
rise_walked ss (o ∷ os) h = go (slice_get ss o.index) (rise_walked ss os h.1)
  where
    go : (r : Option SetValue) → RiseInTurn (walked ss os) → RiseInTurn (of_number r o.turn (walked ss os))
    go None ih = ih
    go (Some s) ih = which (eqb s.turn o.turn) refl
      where
        which : (b : Bool) → eqb s.turn o.turn ≡ b → RiseInTurn (cond b (s ∷ walked ss os) (walked ss os))
        which true e = (subst (λ k. AreAbove k (walked ss os)) (sym (eqb-true s.turn o.turn e)) (above_walked o.turn ss os h.0), ih)
        which false e = ih

among_got : (ss : List SetValue) (i : ℕ) (s : SetValue) → slice_get ss i ≡ Some s → Among s ss
among_got [] i s e = absurd cc
among_got (x ∷ ss) zero s e = inl (some_same x s e)
among_got (x ∷ ss) (suc i) s e = inr (among_got ss i s e)

got_among : (ss : List SetValue) (s : SetValue) → Among s ss → (i : ℕ) × (slice_get ss i ≡ Some s)
got_among [] s a = absurd a
got_among (x ∷ ss) s (inl e) = (0, ap (λ (v : SetValue). Some v) e)
got_among (x ∷ ss) s (inr a) = let h = got_among ss s a in (suc h.0, h.1)

walked_among : (ss : List SetValue) (os : List Opening) (s : SetValue) → Among s (walked ss os) → Among s ss
walked_among ss [] s a = absurd a
walked_among ss (o ∷ os) s a = go (slice_get ss o.index) refl a (walked_among ss os s)
  where
    go : (r : Option SetValue) → slice_get ss o.index ≡ r → Among s (of_number r o.turn (walked ss os)) → (Among s (walked ss os) → Among s ss) → Among s ss
    go None e a ih = ih a
    go (Some t) e a ih = which (eqb t.turn o.turn) a
      where
        which : (b : Bool) → Among s (cond b (t ∷ walked ss os) (walked ss os)) → Among s ss
        which true (inl f) = subst (λ v. Among v ss) f (among_got ss o.index t e)
        which true (inr a) = ih a
        which false a = ih a

among_walked : (ss : List SetValue) (os : List Opening) (i : ℕ) (s : SetValue) → slice_get ss i ≡ Some s → IsNoted (opening s i) os → Among s (walked ss os)
among_walked ss [] i s there m = absurd m
among_walked ss (o ∷ os) i s there (inl e) =
    let at : slice_get ss o.index ≡ Some s = ap (λ (p : Opening). slice_get ss p.index) e ∙ there in
    let n : s.turn ≡ o.turn = ap (λ (p : Opening). p.turn) (sym e) in
    subst (λ (r : Option SetValue). Among s (of_number r o.turn (walked ss os))) (sym at)
    (subst (λ (b : Bool). Among s (cond b (s ∷ walked ss os) (walked ss os))) (sym (eq-eqb s.turn o.turn n)) (inl refl))
among_walked ss (o ∷ os) i s there (inr m) = later (slice_get ss o.index) (among_walked ss os i s there m)
  where
    later : (r : Option SetValue) → Among s (walked ss os) → Among s (of_number r o.turn (walked ss os))
    later None a = a
    later (Some t) a = which (eqb t.turn o.turn)
      where
        which : (b : Bool) → Among s (cond b (t ∷ walked ss os) (walked ss os))
        which true = inr a
        which false = a

pub walked_is : (t : ℕ) (os : List Opening) (ss : List SetValue) → InLine t os ss → walked ss os ≡ arranged ss
walked_is t os ss h =
    one_climbs (walked ss os) (arranged ss) (rise_walked ss os h.climbs) (arranged_climbs ss h.turns.apart)
    (λ s a. among_arranged ss s (walked_among ss os s a))
    (λ s a. let g = got_among ss s (arranged_among ss s a) in among_walked ss os g.0 s g.1 (h.each g.0 s g.1 tt))

-- ---- the first from a number on

abbrev pub head : List SetValue → Option SetValue
head [] = None
head (s ∷ ss) = Some s

from_walked : (n : ℕ) (ss : List SetValue) (os : List Opening) → AreFrom n os → first_from n (walked ss os) ≡ head (walked ss os)
from_walked n ss [] h = refl
from_walked n ss (o ∷ os) h = go (slice_get ss o.index) (from_walked n ss os h.1)
  where
    go : (r : Option SetValue) → first_from n (walked ss os) ≡ head (walked ss os) → first_from n (of_number r o.turn (walked ss os)) ≡ head (of_number r o.turn (walked ss os))
    go None ih = ih
    go (Some s) ih = which (eqb s.turn o.turn) refl
      where
        which : (b : Bool) → eqb s.turn o.turn ≡ b → first_from n (cond b (s ∷ walked ss os) (walked ss os)) ≡ head (cond b (s ∷ walked ss os) (walked ss os))
        which true e = ap (λ (b : Bool). cond b (Some s) (first_from n (walked ss os))) (le-leb n s.turn (subst (λ k. n ≤ k) (sym (eqb-true s.turn o.turn e)) h.0))
        which false e = ih

split_walked : (n p : ℕ) (ss : List SetValue) (os : List Opening) → Splits n p os → first_from n (walked ss os) ≡ head (walked ss (drop p os))
split_walked n zero ss os h = from_walked n ss os h
split_walked n (suc p) ss [] h = absurd h
split_walked n (suc p) ss (o ∷ os) h = go (slice_get ss o.index) (split_walked n p ss os h.1)
  where
    go : (r : Option SetValue) → first_from n (walked ss os) ≡ head (walked ss (drop p os)) → first_from n (of_number r o.turn (walked ss os)) ≡ head (walked ss (drop p os))
    go None ih = ih
    go (Some s) ih = which (eqb s.turn o.turn) refl
      where
        which : (b : Bool) → eqb s.turn o.turn ≡ b → first_from n (cond b (s ∷ walked ss os) (walked ss os)) ≡ head (walked ss (drop p os))
        which true e = ap (λ (b : Bool). cond b (Some s) (first_from n (walked ss os))) (later (leb n s.turn) refl) ∙ ih
          where
            later : (b : Bool) → leb n s.turn ≡ b → b ≡ false
            later false f = refl
            later true f = let l = leb-true n s.turn f in let k = h.0 in let g = eqb-true s.turn o.turn e in absurd (omega arith)
        which false e = ih

pub told_first : (t n p : ℕ) (os : List Opening) (ss : List SetValue) → InLine t os ss → Splits n p os → head (walked ss (drop p os)) ≡ first_from n (arranged ss)
told_first t n p os ss h s = sym (split_walked n p ss os s) ∙ ap (first_from n) (walked_is t os ss h)

-- ---- one opening of the line is looked at

pub drop_got : {X : Type 0} (p : ℕ) (xs : List X) (x : X) → p < length xs → x ≡ get_or xs p x → drop p xs ≡ x ∷ drop (p + 1) xs
drop_got p xs x l e = go p xs l e ∙ ap (λ n. x ∷ drop n xs) (next p)
  where
    next : (n : ℕ) → suc n ≡ n + 1
    next n = omega arith

    go : {Y : Type 0} (n : ℕ) {y : Y} (ys : List Y) → n < length ys → y ≡ get_or ys n y → drop n ys ≡ y ∷ drop (suc n) ys
    go n [] l e = absurd (omega arith)
    go zero (z ∷ ys) l e = ap (λ v. v ∷ ys) (sym e)
    go (suc n) (z ∷ ys) l e = go n ys (omega arith) e

-- its set has gone
pub walk_passed : (ss : List SetValue) (p : ℕ) (os : List Opening) (o : Opening) → p < length os → o ≡ get_or os p o → lies ss o ≡ false
    → walked ss (drop p os) ≡ walked ss (drop (p + 1) os)
walk_passed ss p os o l e f = ap (walked ss) (drop_got p os o l e) ∙ go (slice_get ss o.index) f
  where
    go : (r : Option SetValue) → has_number r o.turn ≡ false → of_number r o.turn (walked ss (drop (p + 1) os)) ≡ walked ss (drop (p + 1) os)
    go None h = refl
    go (Some s) h = ap (λ (b : Bool). cond b (s ∷ walked ss (drop (p + 1) os)) (walked ss (drop (p + 1) os))) h

-- its set is there
pub walk_found : (ss : List SetValue) (p : ℕ) (os : List Opening) (o : Opening) (s : SetValue) → p < length os → o ≡ get_or os p o → lies ss o ≡ true
    → slice_get ss o.index ≡ Some s → walked ss (drop p os) ≡ s ∷ walked ss (drop (p + 1) os)
walk_found ss p os o s l e f there =
    ap (walked ss) (drop_got p os o l e)
    ∙ (ap (λ (r : Option SetValue). of_number r o.turn (walked ss (drop (p + 1) os))) there
    ∙ ap (λ (b : Bool). cond b (s ∷ walked ss (drop (p + 1) os)) (walked ss (drop (p + 1) os)))
    (ap (λ (r : Option SetValue). has_number r o.turn) (sym there) ∙ f))

-- no opening is left
pub walk_none : (ss : List SetValue) (p : ℕ) (os : List Opening) → length os ≤ p → walked ss (drop p os) ≡ []
walk_none ss p os l = ap (walked ss) (go p os l)
  where
    go : (n : ℕ) (ls : List Opening) → length ls ≤ n → drop n ls ≡ []
    go zero [] l = refl
    go (suc n) [] l = refl
    go zero (x ∷ ls) l = absurd (omega arith)
    go (suc n) (x ∷ ls) l = go n ls (omega arith)

-- what is read at a place stands there
pub got : (os : List Opening) (p : ℕ) (o : Opening) → p < length os → o ≡ get_or os p o → slice_get os p ≡ Some o
got [] p o l e = absurd (omega arith)
got (x ∷ os) zero o l e = ap (λ (v : Opening). Some v) (sym e)
got (x ∷ os) (suc p) o l e = got os p o (omega arith) e
