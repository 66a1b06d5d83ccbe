-- Open sets of which the old ones go, one by one.
use Rattle.std.proofs.Common.{◌≡◌, ℕ, zero, suc, ◌+◌, ◌≤◌, inl, inr, Bool, true, false, cond, not, leb, eqb, List, [], ◌∷◌, ◌++◌, take, drop, length, slice_get, Some, refl, sym, ap, ◌∙◌, subst}
use Rattle.std.proofs.lemmas.Bool.{eqb-true, le-leb, leb-true}
use Rattle.std.proofs.lemmas.Option.{get_or_from_slice_get}
use Rattle.std.specs.List.{filter, remove, swap_remove}
use Rattle.sms_join.specs.declared.age.Age.{Age}
use Rattle.sms_join.specs.OpenSets.{SetValue, AreOpen}
use Rattle.sms_join.specs.Inside.Ages.{young_of}
use Rattle.sms_join.specs.Inside.Turns.{HaveTurns, arranged}
use Rattle.sms_join.specs.Inside.Lines.{AreInTime}
use Rattle.sms_join.specs.Inside.Dropping.{Drops, DropsMany, DropsOld}
use Rattle.sms_join.proofs.AgedSets.{stays}
use Rattle.sms_join.proofs.Few.{fewer_after}
use Rattle.sms_join.proofs.InLine.{Comes, comes, got_within, apart_at}
use Rattle.sms_join.proofs.Order.{arranged_gone}
use Rattle.sms_join.proofs.Places.{split_at}
use Rattle.sms_join.proofs.Outcomes.{are_open_without}
use Rattle.sms_join.proofs.Swapped.{swapped}
use Rattle.sms_join.proofs.Told.{Among, arranged_among}
use Rattle.sms_join.proofs.Turns.{turns_gone}

some_same : {X : Type 0} (x y : X) → Some x ≡ Some y → x ≡ y
some_same x y e = cc

-- ---- one goes

open_without : (ss : List SetValue) (i : ℕ) (s : SetValue) → AreOpen ss → slice_get ss i ≡ Some s → AreOpen (remove ss i)
open_without ss i s o there = are_open_without (take i ss) s (drop (suc i) ss) (subst AreOpen split o)
  where
    split : ss ≡ take i ss ++ s ∷ drop (suc i) ss
    split = split_at ss i s (got_within ss i s there) ∙ ap (λ v. take i ss ++ v ∷ drop (suc i) ss) (get_or_from_slice_get ss i s s there)

turns_drop : (age : Age) (t : ℕ) (ss ts : List SetValue) → Drops age ss ts → HaveTurns t ss → HaveTurns t ts
turns_drop age t ss ts d h = subst (HaveTurns t) (sym d.is) (turns_gone t ss d.index d.own d.there (got_within ss d.index d.own d.there) h)

open_drop : (age : Age) (ss ts : List SetValue) → Drops age ss ts → AreOpen ss → AreOpen ts
open_drop age ss ts d o =
    let l = got_within ss d.index d.own d.there in
    subst AreOpen (sym d.is) (swapped ss d.index d.own [] l (open_without ss d.index d.own o d.there)).are_open

fewer_drop : (age : Age) (ss ts : List SetValue) (most : ℕ) → Drops age ss ts → length ss ≤ most → length ts ≤ most
fewer_drop age ss ts most d few = fewer_after ss d.index ts most d.there (λ s there. d.is ∙ ap (swap_remove ss d.index) (some_same d.own s (sym d.there ∙ there))) few

time_drop : (age : Age) (latest : ℕ) (ss ts : List SetValue) → Drops age ss ts → AreInTime latest ss → AreInTime latest ts
time_drop age latest ss ts d h = subst (AreInTime latest) (sym d.is) (record {
  past = λ i s there. let c = from i s there in h.past c.from s c.there;
  order = λ i j s t a b less. let c = from i s a in let e = from j t b in h.order c.from e.from s t c.there e.there less;
})
  where
    from : (i : ℕ) (s : SetValue) → slice_get (swap_remove ss d.index d.own) i ≡ Some s → Comes ss d.index i s
    from i s there = comes ss d.index i d.own s (got_within ss d.index d.own d.there) there

-- ---- a test that those which go fail

skipped : (t u : SetValue → Bool) (xs : List SetValue) → ((x : SetValue) → Among x xs → u x ≡ false → t x ≡ false) → filter t (filter u xs) ≡ filter t xs
skipped t u [] h = refl
skipped t u (x ∷ xs) h = go (u x) refl (skipped t u xs (λ y a. h y (inr a)))
  where
    go : (b : Bool) → u x ≡ b → filter t (filter u xs) ≡ filter t xs → filter t (cond b (x ∷ filter u xs) (filter u xs)) ≡ cond (t x) (x ∷ filter t xs) (filter t xs)
    go true e ih = ap (λ l. cond (t x) (x ∷ l) l) ih
    go false e ih = ih ∙ ap (λ (b : Bool). cond b (x ∷ filter t xs) (filter t xs)) (sym (h x (inl refl) e))

among_at : (xs : List SetValue) (x : SetValue) → Among x xs → (i : ℕ) × (slice_get xs i ≡ Some x)
among_at [] x a = absurd a
among_at (y ∷ xs) x (inl e) = (0, ap (λ (v : SetValue). Some v) e)
among_at (y ∷ xs) x (inr a) = let h = among_at xs x a in (suc h.0, h.1)

all_stay : (t : SetValue → Bool) (xs : List SetValue) → ((x : SetValue) → Among x xs → t x ≡ true) → filter t xs ≡ xs
all_stay t [] h = refl
all_stay t (x ∷ xs) h = ap (λ (b : Bool). cond b (x ∷ filter t xs) (filter t xs)) (h x (inl refl)) ∙ ap (λ l. x ∷ l) (all_stay t xs (λ y a. h y (inr a)))

told_drop : (age : Age) (t : ℕ) (ss ts : List SetValue) → HaveTurns t ss → Drops age ss ts → young_of age (arranged ts) ≡ young_of age (arranged ss)
told_drop age t ss ts h d =
    ap (λ l. young_of age (arranged l)) d.is
    ∙ (ap (young_of age) (arranged_gone t ss d.index d.own d.there (got_within ss d.index d.own d.there) h)
    ∙ skipped (stays age) (λ (x : SetValue). not (eqb x.turn d.own.turn)) (arranged ss) old)
  where
    old : (x : SetValue) → Among x (arranged ss) → not (eqb x.turn d.own.turn) ≡ false → stays age x ≡ false
    old x a e =
        let m = among_at ss x (arranged_among ss x a) in
        let same_turn : x.turn ≡ d.own.turn = eqb-true x.turn d.own.turn (flip (eqb x.turn d.own.turn) e) in
        let at : m.0 ≡ d.index = apart_at ss m.0 d.index x d.own h.apart m.1 d.there same_turn in
        let own : x ≡ d.own = some_same x d.own (sym m.1 ∙ (ap (slice_get ss) at ∙ d.there)) in
        ap not (le-leb (x.opened + age.longest) age.now (subst (λ (v : SetValue). v.opened + age.longest ≤ age.now) (sym own) d.old))
      where
        flip : (b : Bool) → not b ≡ false → b ≡ true
        flip true e = refl
        flip false e = absurd cc

-- ---- many go

pub turns_many : (age : Age) (n t : ℕ) (ss ts : List SetValue) → DropsMany age n ss ts → HaveTurns t ss → HaveTurns t ts
turns_many age zero t ss ts d h = subst (HaveTurns t) d h
turns_many age (suc n) t ss ts d h = turns_drop age t d.0 ts d.2 (turns_many age n t ss d.0 d.1 h)

pub time_many : (age : Age) (n latest : ℕ) (ss ts : List SetValue) → DropsMany age n ss ts → AreInTime latest ss → AreInTime latest ts
time_many age zero latest ss ts d h = subst (AreInTime latest) d h
time_many age (suc n) latest ss ts d h = time_drop age latest d.0 ts d.2 (time_many age n latest ss d.0 d.1 h)

open_many : (age : Age) (n : ℕ) (ss ts : List SetValue) → DropsMany age n ss ts → AreOpen ss → AreOpen ts
open_many age zero ss ts d h = subst AreOpen d h
open_many age (suc n) ss ts d h = open_drop age d.0 ts d.2 (open_many age n ss d.0 d.1 h)

fewer_many : (age : Age) (n most : ℕ) (ss ts : List SetValue) → DropsMany age n ss ts → length ss ≤ most → length ts ≤ most
fewer_many age zero most ss ts d h = subst (λ l. length l ≤ most) d h
fewer_many age (suc n) most ss ts d h = fewer_drop age d.0 ts most d.2 (fewer_many age n most ss d.0 d.1 h)

told_many : (age : Age) (n t : ℕ) (ss ts : List SetValue) → HaveTurns t ss → DropsMany age n ss ts → young_of age (arranged ts) ≡ young_of age (arranged ss)
told_many age zero t ss ts h d = ap (λ l. young_of age (arranged l)) (sym d)
told_many age (suc n) t ss ts h d = told_drop age t d.0 ts (turns_many age n t ss d.0 d.1 h) d.2 ∙ told_many age n t ss d.0 h d.1

-- ---- and no old one is left

pub open_dropped : (age : Age) (ss ts : List SetValue) → DropsOld age ss ts → AreOpen ss → AreOpen ts
open_dropped age ss ts d o = open_many age d.count ss ts d.many o

pub fewer_dropped : (age : Age) (ss ts : List SetValue) (most : ℕ) → DropsOld age ss ts → length ss ≤ most → length ts ≤ most
fewer_dropped age ss ts most d l = fewer_many age d.count most ss ts d.many l

pub told_dropped : (age : Age) (t : ℕ) (ss ts : List SetValue) → HaveTurns t ss → DropsOld age ss ts → arranged ts ≡ young_of age (arranged ss)
told_dropped age t ss ts h d = sym (all_stay (stays age) (arranged ts) young) ∙ told_many age d.count t ss ts h d.many
  where
    young : (x : SetValue) → Among x (arranged ts) → stays age x ≡ true
    young x a =
        let m = among_at ts x (arranged_among ts x a) in
        go (leb (x.opened + age.longest) age.now) refl m
      where
        go : (b : Bool) → leb (x.opened + age.longest) age.now ≡ b → (i : ℕ) × (slice_get ts i ≡ Some x) → not b ≡ true
        go true e m = absurd (d.rest m.0 x m.1 (leb-true _ _ e))
        go false e m = refl

-- a set goes after many
pub many_more : (age : Age) (n : ℕ) (rs ss ts : List SetValue) → DropsMany age n rs ss → Drops age ss ts → DropsMany age (suc n) rs ts
many_more age n rs ss ts m d = (ss, m, d)
