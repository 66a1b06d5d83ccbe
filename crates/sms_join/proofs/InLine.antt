-- The line of openings, as sets come and go.
use Rattle.std.proofs.Common.{◌≡◌, ◌≢◌, ℕ, zero, suc, ◌-◌, ◌<◌, ◌≤◌, ◌⊎◌, inl, inr, Bool, true, false, cond, ◌||◌, eqb, ltb, List, [], ◌∷◌, ◌++◌, take, drop, length, get_or, slice_get, Option, Some, None, refl, sym, ap, ◌∙◌, subst, arith}
use Rattle.std.proofs.Math.ListN.{set}
use Rattle.std.proofs.lemmas.Bool.{eqb-true, eq-eqb, ne_eqb, ltb-true, ltb-false}
use Rattle.std.specs.List.{filter, swap_remove}
use Rattle.std.specs.List.Sorted.{IsNonDecreasingBy}
use Rattle.sms_join.specs.declared.line.Opening.{Opening}
use Rattle.sms_join.specs.OpenSets.{SetValue}
use Rattle.sms_join.proofs.Turns.{turns_gone, turns_set}
use Rattle.sms_join.specs.Inside.Turns.{AreBefore, AreApart, HaveTurns, has_turn}
use Rattle.sms_join.specs.Inside.Lines.{AreAfter, Climbs, AreUnder, AreFrom, Splits, IsNoted, noted, noted_at, has_number, lies, AreNoted, InLine, AreInTime}

-- the opening of a set that lies at an index
abbrev pub opening : SetValue → ℕ → Opening
opening s i = record { turn = s.turn; index = i }

turn_same : (o p : Opening) → o ≡ p → o.turn ≡ p.turn
turn_same o p e = ap (λ (q : Opening). q.turn) e

-- ---- one of those after it, before it

pub after_noted : (n : ℕ) (os : List Opening) (o : Opening) → AreAfter n os → IsNoted o os → n < o.turn
after_noted n [] o h m = absurd m
after_noted n (p ∷ ps) o h (inl e) = subst (λ (q : Opening). n < q.turn) e h.0
after_noted n (p ∷ ps) o h (inr m) = after_noted n ps o h.1 m

pub under_noted : (n : ℕ) (os : List Opening) (o : Opening) → AreUnder n os → IsNoted o os → o.turn < n
under_noted n [] o h m = absurd m
under_noted n (p ∷ ps) o h (inl e) = subst (λ (q : Opening). q.turn < n) e h.0
under_noted n (p ∷ ps) o h (inr m) = under_noted n ps o h.1 m

pub from_noted : (n : ℕ) (os : List Opening) (o : Opening) → AreFrom n os → IsNoted o os → n ≤ o.turn
from_noted n [] o h m = absurd m
from_noted n (p ∷ ps) o h (inl e) = subst (λ (q : Opening). n ≤ q.turn) e h.0
from_noted n (p ∷ ps) o h (inr m) = from_noted n ps o h.1 m

-- ---- one more opening

noted_front : (os ps : List Opening) (o : Opening) → IsNoted o os → IsNoted o (os ++ ps)
noted_front [] ps o m = absurd m
noted_front (p ∷ os) ps o (inl e) = inl e
noted_front (p ∷ os) ps o (inr m) = inr (noted_front os ps o m)

noted_last : (os : List Opening) (o : Opening) → IsNoted o (os ++ o ∷ [])
noted_last [] o = inl refl
noted_last (p ∷ os) o = inr (noted_last os o)

after_more : (n : ℕ) (os : List Opening) (o : Opening) → AreAfter n os → n < o.turn → AreAfter n (os ++ o ∷ [])
after_more n [] o h l = (l, tt)
after_more n (p ∷ os) o h l = (h.0, after_more n os o h.1 l)

climbs_more : (os : List Opening) (o : Opening) → Climbs os → AreUnder o.turn os → Climbs (os ++ o ∷ [])
climbs_more [] o h u = (tt, tt)
climbs_more (p ∷ os) o h u = (after_more p.turn os o h.0 u.0, climbs_more os o h.1 u.1)

under_more : (n : ℕ) (os : List Opening) (o : Opening) → AreUnder n os → o.turn ≡ n → AreUnder (suc n) (os ++ o ∷ [])
under_more n [] o h e = (omega arith, tt)
under_more n (p ∷ os) o h e = (let l = h.0 in omega arith, under_more n os o h.1 e)

before_later : (t u : ℕ) (ss : List SetValue) → t ≤ u → AreBefore t ss → AreBefore u ss
before_later t u [] l h = tt
before_later t u (s ∷ ss) l h = (let a = h.0 in omega arith, before_later t u ss l h.1)

-- an opening, of which no set has come yet
pub line_opened : (t u : ℕ) (os ps : List Opening) (o : Opening) (ss : List SetValue) → u ≡ suc t → o.turn ≡ t → ps ≡ os ++ o ∷ [] → InLine t os ss → InLine u ps ss
line_opened t u os ps o ss next e is h =
    subst (λ n. InLine n ps ss) (sym next) (subst (λ l. InLine (suc t) l ss) (sym is) (record {
      climbs = climbs_more os o h.climbs (subst (λ n. AreUnder n os) (sym e) h.under);
      under = under_more t os o h.under e;
      each = λ i s there a. noted_front os (o ∷ []) (opening s i) (h.each i s there a);
      turns = record { before = before_later t (suc t) ss (omega arith) h.turns.before; apart = h.turns.apart };
    }))

-- the set at an index, of one more
pub got_more : (ss : List SetValue) (v : SetValue) (i : ℕ) (s : SetValue) → slice_get (ss ++ v ∷ []) i ≡ Some s → (slice_get ss i ≡ Some s) ⊎ ((i ≡ length ss) × (s ≡ v))
got_more [] v zero s e = inr (refl, (let x : Some v ≡ Some s = e in cc))
got_more [] v (suc i) s e = absurd cc
got_more (x ∷ ss) v zero s e = inl e
got_more (x ∷ ss) v (suc i) s e = elim (got_more ss v i s e) [
  | inl h ↦ inl h
  | inr h ↦ inr (ap suc h.0, h.1)
]

-- the set of the last opening
pub line_more : (t u : ℕ) (os ps : List Opening) (o : Opening) (ss new : List SetValue) (v : SetValue) → u ≡ suc t → o.turn ≡ t → o.index ≡ length ss → ps ≡ os ++ o ∷ []
    → new ≡ ss ++ v ∷ [] → v.turn ≡ t → HaveTurns (suc t) new → InLine t os ss → InLine u ps new
line_more t u os ps o ss new v next e f is more turn turns h =
    subst (λ n. InLine n ps new) (sym next) (subst (λ l. InLine (suc t) l new) (sym is) (record {
      climbs = climbs_more os o h.climbs (subst (λ n. AreUnder n os) (sym e) h.under);
      under = under_more t os o h.under e;
      each = λ i s there a. elim (got_more ss v i s (subst (λ l. slice_get l i ≡ Some s) more there)) [
        | inl b ↦ noted_front os (o ∷ []) (opening s i) (h.each i s b tt)
        | inr b ↦ subst (λ (q : Opening). IsNoted q (os ++ o ∷ [])) (same i s b.0 b.1) (noted_last os o)
      ];
      turns = turns;
    }))
  where
    same : (i : ℕ) (s : SetValue) → i ≡ length ss → s ≡ v → o ≡ opening s i
    same i s a b =
        let p : o.turn ≡ s.turn = e ∙ (sym turn ∙ ap (λ (w : SetValue). w.turn) (sym b)) in
        let q : o.index ≡ i = f ∙ sym a in
        λ j. record { turn = p j; index = q j }

-- ---- a set lies at another index

pub after_at : (m n i : ℕ) (os : List Opening) → AreAfter m os → AreAfter m (noted n i os)
after_at m n i [] h = tt
after_at m n i (o ∷ os) h = go (eqb o.turn n) refl h.0 (after_at m n i os h.1)
  where
    go : (b : Bool) → eqb o.turn n ≡ b → m < o.turn → AreAfter m (noted n i os) → AreAfter m (cond b (record { turn = n; index = i }) o ∷ noted n i os)
    go true e l r = (subst (λ k. m < k) (eqb-true o.turn n e) l, r)
    go false e l r = (l, r)

turn_at : (n i : ℕ) (o : Opening) (b : Bool) → eqb o.turn n ≡ b → o.turn ≡ (cond b (record { turn = n; index = i }) o).turn
turn_at n i o true e = eqb-true o.turn n e
turn_at n i o false e = refl

pub climbs_at : (n i : ℕ) (os : List Opening) → Climbs os → Climbs (noted n i os)
climbs_at n i [] h = tt
climbs_at n i (o ∷ os) h = (subst (λ k. AreAfter k (noted n i os)) (turn_at n i o (eqb o.turn n) refl) (after_at o.turn n i os h.0), climbs_at n i os h.1)

pub under_at : (m n i : ℕ) (os : List Opening) → AreUnder m os → AreUnder m (noted n i os)
under_at m n i [] h = tt
under_at m n i (o ∷ os) h = (subst (λ k. k < m) (turn_at n i o (eqb o.turn n) refl) h.0, under_at m n i os h.1)

-- those of other numbers stay
other_at : (n i : ℕ) (os : List Opening) (o : Opening) → (o.turn ≡ n → ⊥) → IsNoted o os → IsNoted o (noted n i os)
other_at n i [] o d m = absurd m
other_at n i (p ∷ ps) o d (inl e) = inl (go (eqb p.turn n) refl)
  where
    go : (b : Bool) → eqb p.turn n ≡ b → cond b (record { turn = n; index = i }) p ≡ o
    go true f = absurd (d (ap (λ (q : Opening). q.turn) (sym e) ∙ eqb-true p.turn n f))
    go false f = e
other_at n i (p ∷ ps) o d (inr m) = inr (other_at n i ps o d m)

own_at : (n i j : ℕ) (os : List Opening) → IsNoted (record { turn = n; index = j }) os → IsNoted (record { turn = n; index = i }) (noted n i os)
own_at n i j [] m = absurd m
own_at n i j (p ∷ ps) (inl e) = inl (ap (λ (b : Bool). cond b (record { turn = n; index = i }) p) (eq-eqb p.turn n (ap (λ (q : Opening). q.turn) e)))
own_at n i j (p ∷ ps) (inr m) = inr (own_at n i j ps m)

pub after_got : (n : ℕ) (os : List Opening) (p : ℕ) (o : Opening) → AreAfter n os → slice_get os p ≡ Some o → n < o.turn
after_got n [] p o h e = absurd cc
after_got n (x ∷ os) zero o h e = let same : x ≡ o = cc in subst (λ (q : Opening). n < q.turn) same h.0
after_got n (x ∷ os) (suc p) o h e = after_got n os p o h.1 e

-- writing to the place of an opening notes it
none_noted : (n i m : ℕ) (os : List Opening) → n ≤ m → AreAfter m os → noted n i os ≡ os
none_noted n i m [] l h = refl
none_noted n i m (o ∷ os) l h =
    let a = h.0 in
    rw (ne_eqb o.turn n (λ e. omega arith), none_noted n i m os l h.1) refl

pub written : (i p : ℕ) (os : List Opening) (o q : Opening) → Climbs os → slice_get os p ≡ Some o → q ≡ get_or os p q → set os p (record { turn = q.turn; index = i }) ≡ noted o.turn i os
written i p [] o q h there e = absurd cc
written i zero (x ∷ os) o q h there e =
    let same : x ≡ o = cc in
    let turn : x.turn ≡ o.turn = ap (λ (r : Opening). r.turn) same in
    ap (λ (r : Opening). record { turn = r.turn; index = i } ∷ os) (e ∙ same)
    ∙ (ap (λ l. record { turn = o.turn; index = i } ∷ l) (sym (none_noted o.turn i x.turn os (omega (arith, turn)) h.0))
    ∙ ap (λ (b : Bool). cond b (record { turn = o.turn; index = i }) x ∷ noted o.turn i os) (sym (eq-eqb x.turn o.turn turn)))
written i (suc p) (x ∷ os) o q h there e =
    let less : x.turn < o.turn = after_got x.turn os p o h.0 there in
    ap (λ l. x ∷ l) (written i p os o q h.1 there e)
    ∙ ap (λ (b : Bool). cond b (record { turn = o.turn; index = i }) x ∷ noted o.turn i os) (sym (ne_eqb x.turn o.turn (λ f. omega arith)))

-- ---- a set goes, and the last one takes its place

some_same : {X : Type 0} (x y : X) → Some x ≡ Some y → x ≡ y
some_same x y e = cc

taken : {X : Type 0} (n j : ℕ) (xs : List X) (t : X) → slice_get (take n xs) j ≡ Some t → (j < n) × (slice_get xs j ≡ Some t)
taken zero j xs t e = absurd cc
taken (suc n) j [] t e = absurd cc
taken (suc n) zero (x ∷ xs) t e = (omega arith, e)
taken (suc n) (suc j) (x ∷ xs) t e = let h = taken n j xs t e in (let l = h.0 in omega arith, h.1)

took : {X : Type 0} (n j : ℕ) (xs : List X) → slice_get (take n xs) j ≡ None → j < n → slice_get xs j ≡ None
took zero j xs e l = absurd (omega arith)
took (suc n) j [] e l = refl
took (suc n) zero (x ∷ xs) e l = e
took (suc n) (suc j) (x ∷ xs) e l = took n j xs e (omega arith)

pub put_at : {X : Type 0} (xs : List X) (i j : ℕ) (v t : X) → slice_get (set xs i v) j ≡ Some t → ((j ≡ i) × (v ≡ t)) ⊎ ((j ≢ i) × (slice_get xs j ≡ Some t))
put_at [] i j v t e = absurd cc
put_at (x ∷ xs) zero zero v t e = inl (refl, some_same v t e)
put_at (x ∷ xs) zero (suc j) v t e = inr ((λ f. omega arith), e)
put_at (x ∷ xs) (suc i) zero v t e = inr ((λ f. omega arith), e)
put_at (x ∷ xs) (suc i) (suc j) v t e = elim (put_at xs i j v t e) [
  | inl h ↦ inl (ap suc h.0, h.1)
  | inr h ↦ inr ((λ f. h.0 (omega arith)), h.1)
]

last_got : {X : Type 0} (xs : List X) (n : ℕ) (d : X) → n < length xs → slice_get xs n ≡ Some (get_or xs n d)
last_got [] n d l = absurd (omega arith)
last_got (x ∷ xs) zero d l = refl
last_got (x ∷ xs) (suc n) d l = last_got xs n d (omega arith)

pub got_within : {X : Type 0} (xs : List X) (i : ℕ) (t : X) → slice_get xs i ≡ Some t → i < length xs
got_within [] i t e = absurd cc
got_within (x ∷ xs) zero t e = omega arith
got_within (x ∷ xs) (suc i) t e = let l = got_within xs i t e in omega arith

got_none : {X : Type 0} (xs : List X) (i : ℕ) → slice_get xs i ≡ None → length xs ≤ i
got_none [] i e = omega arith
got_none (x ∷ xs) zero e = absurd cc
got_none (x ∷ xs) (suc i) e = let l = got_none xs i e in omega arith

-- where a set comes from
pub record Comes {X : Type 0} (ss : List X) (i j : ℕ) (t : X) : Type 0 where
  pub from : ℕ
  pub there : slice_get ss from ≡ Some t
  pub within : suc j < length ss
  pub place : ((j ≡ i) × (suc from ≡ length ss)) ⊎ ((j ≢ i) × (from ≡ j) × (suc j < length ss))

pub comes : {X : Type 0} (ss : List X) (i j : ℕ) (s t : X) → i < length ss → slice_get (swap_remove ss i s) j ≡ Some t → Comes ss i j t
comes ss i j s t l e =
    let h = taken (length ss - 1) j (set ss i (get_or ss (length ss - 1) s)) t e in
    elim (put_at ss i j (get_or ss (length ss - 1) s) t h.1) [
      | inl p ↦ record {
        from = length ss - 1;
        there = last_got ss (length ss - 1) s (omega arith) ∙ ap (λ v. Some v) p.1;
        within = let k = h.0 in omega arith;
        place = inl (p.0, omega arith);
      }
      | inr p ↦ record { from = j; there = p.1; within = (let k = h.0 in omega arith); place = inr (p.0, refl, (let k = h.0 in omega arith)) }
    ]

-- two sets have two numbers
turn_there : (ss : List SetValue) (k : ℕ) (m : SetValue) → slice_get ss k ≡ Some m → has_turn ss m.turn ≡ true
turn_there [] k m e = absurd cc
turn_there (x ∷ ss) zero m e = ap (λ (b : Bool). b || has_turn ss m.turn) (eq-eqb x.turn m.turn (ap (λ (v : SetValue). v.turn) (some_same x m e)))
turn_there (x ∷ ss) (suc k) m e = ap (λ (b : Bool). eqb x.turn m.turn || b) (turn_there ss k m e) ∙ both (eqb x.turn m.turn)
  where
    both : (b : Bool) → (b || true) ≡ true
    both true = refl
    both false = refl

pub apart_at : (ss : List SetValue) (j k : ℕ) (t m : SetValue) → AreApart ss → slice_get ss j ≡ Some t → slice_get ss k ≡ Some m → t.turn ≡ m.turn → j ≡ k
apart_at [] j k t m a e f g = absurd cc
apart_at (x ∷ ss) zero zero t m a e f g = refl
apart_at (x ∷ ss) zero (suc k) t m a e f g =
    let x_is : x.turn ≡ m.turn = ap (λ (v : SetValue). v.turn) (some_same x t e) ∙ g in
    let wrong : true ≡ false = sym (turn_there ss k m f) ∙ (ap (has_turn ss) (sym x_is) ∙ a.0) in
    absurd cc
apart_at (x ∷ ss) (suc j) zero t m a e f g =
    let x_is : x.turn ≡ t.turn = ap (λ (v : SetValue). v.turn) (some_same x m f) ∙ sym g in
    let wrong : true ≡ false = sym (turn_there ss j t e) ∙ (ap (has_turn ss) (sym x_is) ∙ a.0) in
    absurd cc
apart_at (x ∷ ss) (suc j) (suc k) t m a e f g = ap suc (apart_at ss j k t m a.1 e f g)

pub still_noted : (P : SetValue → Type 0) (ss : List SetValue) (i : ℕ) (s : SetValue) (os : List Opening) → i < length ss → AreApart ss → AreNoted P ss os
    → AreNoted P (swap_remove ss i s) (noted_at (slice_get (swap_remove ss i s) i) i os)
still_noted P ss i s os l a each j t there p = go (slice_get (swap_remove ss i s) i) refl
  where
    go : (r : Option SetValue) → slice_get (swap_remove ss i s) i ≡ r → IsNoted (opening t j) (noted_at r i os)
    go None e = elim (comes ss i j s t l there).place [
      | inl h ↦ (let wrong : None ≡ Some t = sym e ∙ subst (λ k. slice_get (swap_remove ss i s) k ≡ Some t) h.0 there in absurd cc)
      | inr h ↦ each j t (subst (λ k. slice_get ss k ≡ Some t) h.1 (comes ss i j s t l there).there) p
    ]
    go (Some m) e = elim (comes ss i j s t l there).place [
      | inl h ↦
          let same : m ≡ t = some_same m t (sym e ∙ subst (λ k. slice_get (swap_remove ss i s) k ≡ Some t) h.0 there) in
          let n = (comes ss i j s t l there).from in
          subst (λ k. IsNoted (opening t k) (noted m.turn i os)) (sym h.0)
          (subst (λ (v : SetValue). IsNoted (opening t i) (noted v.turn i os)) (sym same)
          (own_at t.turn i n os (each n t (comes ss i j s t l there).there p)))
      | inr h ↦ elim (comes ss i i s m l e).place [
        | inl k ↦
            let t_there : slice_get ss j ≡ Some t = subst (λ k. slice_get ss k ≡ Some t) h.1 (comes ss i j s t l there).there in
            other_at m.turn i os (opening t j)
            (λ f. let g = apart_at ss j (comes ss i i s m l e).from t m a t_there (comes ss i i s m l e).there f in let u = h.2 in let w = k.1 in omega arith)
            (each j t t_there p)
        | inr k ↦ absurd (k.0 refl)
      ]
    ]

pub line_at : (P : List Opening → Type 0) (r : Option SetValue) (i : ℕ) (os : List Opening) → ((n : ℕ) → P (noted n i os)) → P os → P (noted_at r i os)
line_at P None i os f p = p
line_at P (Some m) i os f p = f m.turn

pub line_dropped : (t : ℕ) (ss : List SetValue) (i : ℕ) (s : SetValue) (os : List Opening) → slice_get ss i ≡ Some s → InLine t os ss
    → InLine t (noted_at (slice_get (swap_remove ss i s) i) i os) (swap_remove ss i s)
line_dropped t ss i s os there h =
    let l = got_within ss i s there in
    record {
      climbs = line_at Climbs (slice_get (swap_remove ss i s) i) i os (λ n. climbs_at n i os h.climbs) h.climbs;
      under = line_at (AreUnder t) (slice_get (swap_remove ss i s) i) i os (λ n. under_at t n i os h.under) h.under;
      each = still_noted (λ s. Unit {0}) ss i s os l h.turns.apart h.each;
      turns = turns_gone t ss i s there l h.turns;
    }

drop_at : (n i p : ℕ) (os : List Opening) → drop p (noted n i os) ≡ noted n i (drop p os)
drop_at n i zero os = refl
drop_at n i (suc p) [] = refl
drop_at n i (suc p) (o ∷ os) = drop_at n i p os

pub dropped_at : (r : Option SetValue) (i p : ℕ) (os : List Opening) → drop p (noted_at r i os) ≡ noted_at r i (drop p os)
dropped_at None i p os = refl
dropped_at (Some m) i p os = drop_at m.turn i p os

-- ---- an opening is passed by

pub passed : (P : SetValue → Type 0) (ss : List SetValue) (o : Opening) (os : List Opening) → ((i : ℕ) (s : SetValue) → slice_get ss i ≡ Some s → P s → o ≡ opening s i → ⊥)
    → AreNoted P ss (o ∷ os) → AreNoted P ss os
passed P ss o os none each i s there p = elim (each i s there p) [
  | inl e ↦ absurd (none i s there p e)
  | inr m ↦ m
]

-- a set that lies where it was noted is found
pub lies_there : (ss : List SetValue) (i : ℕ) (s : SetValue) → slice_get ss i ≡ Some s → lies ss (opening s i) ≡ true
lies_there ss i s e = ap (λ (r : Option SetValue). has_number r s.turn) e ∙ eq-eqb s.turn s.turn refl

-- those that do not lie there are forgotten
kept_noted : (t : Opening → Bool) (os : List Opening) (o : Opening) → IsNoted o os → t o ≡ true → IsNoted o (filter t os)
kept_noted t [] o m e = absurd m
kept_noted t (p ∷ ps) o m e = go (t p) refl m (kept_noted t ps o)
  where
    go : (b : Bool) → t p ≡ b → (p ≡ o) ⊎ IsNoted o ps → (IsNoted o ps → t o ≡ true → IsNoted o (filter t ps)) → IsNoted o (cond b (p ∷ filter t ps) (filter t ps))
    go true f (inl g) ih = inl g
    go true f (inr a) ih = inr (ih a e)
    go false f (inl g) ih = let h : true ≡ false = sym e ∙ (ap t (sym g) ∙ f) in absurd cc
    go false f (inr a) ih = ih a e

kept_after : (t : Opening → Bool) (n : ℕ) (os : List Opening) → AreAfter n os → AreAfter n (filter t os)
kept_after t n [] h = tt
kept_after t n (o ∷ os) h = go (t o) (kept_after t n os h.1)
  where
    go : (b : Bool) → AreAfter n (filter t os) → AreAfter n (cond b (o ∷ filter t os) (filter t os))
    go true r = (h.0, r)
    go false r = r

kept_climbs : (t : Opening → Bool) (os : List Opening) → Climbs os → Climbs (filter t os)
kept_climbs t [] h = tt
kept_climbs t (o ∷ os) h = go (t o) (kept_climbs t os h.1)
  where
    go : (b : Bool) → Climbs (filter t os) → Climbs (cond b (o ∷ filter t os) (filter t os))
    go true r = (kept_after t o.turn os h.0, r)
    go false r = r

kept_under : (t : Opening → Bool) (n : ℕ) (os : List Opening) → AreUnder n os → AreUnder n (filter t os)
kept_under t n [] h = tt
kept_under t n (o ∷ os) h = go (t o) (kept_under t n os h.1)
  where
    go : (b : Bool) → AreUnder n (filter t os) → AreUnder n (cond b (o ∷ filter t os) (filter t os))
    go true r = (h.0, r)
    go false r = r

pub line_kept : (t : ℕ) (os : List Opening) (ss : List SetValue) → InLine t os ss → InLine t (filter (lies ss) os) ss
line_kept t os ss h = record {
  climbs = kept_climbs (lies ss) os h.climbs;
  under = kept_under (lies ss) t os h.under;
  each = λ i s there a. kept_noted (lies ss) os (opening s i) (h.each i s there a) (lies_there ss i s there);
  turns = h.turns;
}

pub kept_few : (t : Opening → Bool) (os : List Opening) → length (filter t os) ≤ length os
kept_few t [] = omega arith
kept_few t (o ∷ os) = go (t o) (kept_few t os)
  where
    go : (b : Bool) → length (filter t os) ≤ length os → length (cond b (o ∷ filter t os) (filter t os)) ≤ suc (length os)
    go true l = omega arith
    go false l = omega arith

-- ---- a piece comes

pub line_put : (t : ℕ) (os : List Opening) (ss : List SetValue) (i : ℕ) (s v : SetValue) → slice_get ss i ≡ Some s → v.turn ≡ s.turn → InLine t os ss → InLine t os (set ss i v)
line_put t os ss i s v there e h = record {
  climbs = h.climbs;
  under = h.under;
  each = λ j u at a. elim (put_at ss i j v u at) [
    | inl p ↦
        let turn : s.turn ≡ u.turn = sym e ∙ ap (λ (w : SetValue). w.turn) p.1 in
        let index : i ≡ j = sym p.0 in
        subst (λ (o : Opening). IsNoted o os) (λ k. record { turn = turn k; index = index k }) (h.each i s there tt)
    | inr p ↦ h.each j u p.1 tt
  ];
  turns = turns_set t ss i s v there e h.turns;
}

-- a set of the same opening was there
record Was (ss : List SetValue) (u : SetValue) : Type 0 where
  pub index : ℕ
  pub own : SetValue
  pub there : slice_get ss index ≡ Some own
  pub turn : u.turn ≡ own.turn
  pub opened : u.opened ≡ own.opened

pub time_put : (latest : ℕ) (ss : List SetValue) (i : ℕ) (s v : SetValue) → slice_get ss i ≡ Some s → v.turn ≡ s.turn → v.opened ≡ s.opened → AreInTime latest ss → AreInTime latest (set ss i v)
time_put latest ss i s v there e f h = record {
  past = λ j u at. let a = was j u at in subst (λ n. n ≤ latest) (sym a.opened) (h.past a.index a.own a.there);
  order = λ j k u w at to less.
      let a = was j u at in
      let b = was k w to in
      let l = h.order a.index b.index a.own b.own a.there b.there (subst (λ n. a.own.turn < n) b.turn (subst (λ n. n < w.turn) a.turn less)) in
      let x = a.opened in
      let y = b.opened in
      omega arith;
}
  where
    was : (j : ℕ) (u : SetValue) → slice_get (set ss i v) j ≡ Some u → Was ss u
    was j u at = elim (put_at ss i j v u at) [
      | inl p ↦ record {
        index = i;
        own = s;
        there = there;
        turn = ap (λ (w : SetValue). w.turn) (sym p.1) ∙ e;
        opened = ap (λ (w : SetValue). w.opened) (sym p.1) ∙ f;
      }
      | inr p ↦ record { index = j; own = u; there = p.1; turn = refl; opened = refl }
    ]

-- ---- a set comes

before_got : (n : ℕ) (ss : List SetValue) (i : ℕ) (s : SetValue) → AreBefore n ss → slice_get ss i ≡ Some s → s.turn < n
before_got n [] i s h e = absurd cc
before_got n (x ∷ ss) zero s h e = subst (λ (v : SetValue). v.turn < n) (some_same x s e) h.0
before_got n (x ∷ ss) (suc i) s h e = before_got n ss i s h.1 e

pub time_more : (now latest : ℕ) (ss new : List SetValue) (v : SetValue) → new ≡ ss ++ v ∷ [] → v.opened ≡ now → AreBefore v.turn ss
    → (length ss ≡ 0) ⊎ ((latest ≤ now) × AreInTime latest ss) → AreInTime now new
time_more now latest ss new v is e before h = subst (AreInTime now) (sym is) (record {
  past = λ i s at. elim (got_more ss v i s at) [
    | inl a ↦ early i s a
    | inr a ↦ (let x = ap (λ (w : SetValue). w.opened) a.1 in omega arith)
  ];
  order = λ i j s t at to less. elim (got_more ss v i s at) [
    | inl a ↦ elim (got_more ss v j t to) [
      | inl b ↦ ordered i j s t a b less
      | inr b ↦ (let x = ap (λ (w : SetValue). w.opened) b.1 in let l = early i s a in omega arith)
    ]
    | inr a ↦ elim (got_more ss v j t to) [
      | inl b ↦ (let x = ap (λ (w : SetValue). w.turn) a.1 in let l = before_got v.turn ss j t before b in absurd (omega arith))
      | inr b ↦ (let x = ap (λ (w : SetValue). w.opened) a.1 in let y = ap (λ (w : SetValue). w.opened) b.1 in omega arith)
    ]
  ];
})
  where
    early : (i : ℕ) (s : SetValue) → slice_get ss i ≡ Some s → s.opened ≤ now
    early i s a = elim h [
      | inl z ↦ (let l = got_within ss i s a in absurd (omega arith))
      | inr k ↦ (let x = k.1.past i s a in let y = k.0 in omega arith)
    ]

    ordered : (i j : ℕ) (s t : SetValue) → slice_get ss i ≡ Some s → slice_get ss j ≡ Some t → s.turn < t.turn → s.opened ≤ t.opened
    ordered i j s t a b less = elim h [
      | inl z ↦ (let l = got_within ss i s a in absurd (omega arith))
      | inr k ↦ k.1.order i j s t a b less
    ]

-- ---- found by a search

after_there : (n : ℕ) (os : List Opening) (k : ℕ) (d : Opening) → AreAfter n os → k < length os → n < (get_or os k d).turn
after_there n [] k d h l = absurd (omega arith)
after_there n (o ∷ os) zero d h l = h.0
after_there n (o ∷ os) (suc k) d h l = after_there n os k d h.1 (omega arith)

pub climbs_order : (os : List Opening) → Climbs os → IsNonDecreasingBy (λ (o : Opening). o.turn) os
climbs_order [] h i j d a l = absurd (omega arith)
climbs_order (o ∷ os) h zero zero d a l = omega arith
climbs_order (o ∷ os) h zero (suc j) d a l = let k = after_there o.turn os j d h.0 (omega arith) in omega arith
climbs_order (o ∷ os) h (suc i) zero d a l = absurd (omega arith)
climbs_order (o ∷ os) h (suc i) (suc j) d a l = climbs_order os h.1 i j d (omega arith) (omega arith)

pub splits_there : (n p : ℕ) (os : List Opening) → p ≤ length os → ((k : ℕ) (d : Opening) → k < p → ltb (get_or os k d).turn n ≡ true)
    → ((k : ℕ) (d : Opening) → p ≤ k → k < length os → ltb (get_or os k d).turn n ≡ false) → Splits n p os
splits_there n zero os l a b = go os b
  where
    go : (ps : List Opening) → ((k : ℕ) (d : Opening) → 0 ≤ k → k < length ps → ltb (get_or ps k d).turn n ≡ false) → AreFrom n ps
    go [] b = tt
    go (o ∷ ps) b = (ltb-false o.turn n (b 0 o (omega arith) (omega arith)), go ps (λ k d x y. b (suc k) d (omega arith) (omega arith)))
splits_there n (suc p) [] l a b = absurd (omega arith)
splits_there n (suc p) (o ∷ os) l a b =
    (ltb-true o.turn n (a 0 o (omega arith)), splits_there n p os (omega arith) (λ k d x. a (suc k) d (omega arith)) (λ k d x y. b (suc k) d (omega arith) (omega arith)))

-- ---- the set at an index goes

pub got_there : {X : Type 0} (xs : List X) (i : ℕ) → i < length xs → (x : X) × (slice_get xs i ≡ Some x)
got_there [] i l = absurd (omega arith)
got_there (x ∷ xs) zero l = (x, refl)
got_there (x ∷ xs) (suc i) l = got_there xs i (omega arith)

pub line_left : (t : ℕ) (ss new : List SetValue) (i : ℕ) (s : SetValue) (os qs : List Opening) → slice_get ss i ≡ Some s → new ≡ swap_remove ss i s
    → qs ≡ noted_at (slice_get new i) i os → InLine t os ss → InLine t qs new
line_left t ss new i s os qs there is line h =
    subst (λ ls. InLine t ls new) (sym line)
    (subst (λ v. InLine t (noted_at (slice_get v i) i os) v) (sym is) (line_dropped t ss i s os there h))

pub time_left : (latest : ℕ) (ss new : List SetValue) (i : ℕ) (s : SetValue) → i < length ss → new ≡ swap_remove ss i s → AreInTime latest ss → AreInTime latest new
time_left latest ss new i s l is h = subst (AreInTime latest) (sym is) (record {
  past = λ j u at. let c = comes ss i j s u l at in h.past c.from u c.there;
  order = λ j k u w a b less. let c = comes ss i j s u l a in let e = comes ss i k s w l b in h.order c.from e.from u w c.there e.there less;
})
