-- Walking along the line of openings, old sets go.
use Rattle.std.proofs.Common.{◌≡◌, ℕ, zero, suc, ◌+◌, ◌<◌, ◌≤◌, inl, inr, Bool, true, false, cond, leb, eqb, List, [], ◌∷◌, drop, length, slice_get, Option, Some, None, refl, sym, ap, ◌∙◌, subst, arith}
use Rattle.std.proofs.lemmas.Bool.{eqb-true, le-leb}
use Rattle.std.specs.List.{swap_remove}
use Rattle.sms_join.specs.declared.line.Opening.{Opening}
use Rattle.sms_join.specs.declared.age.Age.{Age}
use Rattle.sms_join.specs.OpenSets.{SetValue}
use Rattle.sms_join.specs.Inside.Dropping.{DropsMany, DropsOld}
use Rattle.sms_join.specs.Inside.Lines.{IsNoted, Climbs, AreAfter, noted, noted_at, has_number, lies, AreNoted, InLine, AreInTime}
use Rattle.sms_join.specs.Inside.Slots.{At}
use Rattle.sms_join.proofs.InLine.{opening, comes, got_within, apart_at, after_noted, still_noted, line_dropped, dropped_at, passed, lies_there}
use Rattle.sms_join.proofs.OldDropped.{time_many, many_more}

some_same : {X : Type 0} (x y : X) → Some x ≡ Some y → x ≡ y
some_same x y e = cc

-- the set is old
abbrev pub IsOld : Age → SetValue → Type 0
IsOld age s = s.opened + age.longest ≤ age.now

-- as far as the walk has come
pub record Ages (age : Age) (rs : List SetValue) (ps : List Opening) (ss : List SetValue) (os : List Opening) (place : ℕ) (in_time : Bool) : Type 0 where
  pub line : (t : ℕ) → InLine t ps rs → InLine t os ss
  pub count : ℕ
  pub many : DropsMany age count rs ss
  pub old : AreNoted (IsOld age) ss (drop place os)
  pub front : in_time ≡ true → place ≡ 0

pub ages_first : (age : Age) (t : ℕ) (ss : List SetValue) (os : List Opening) (b : Bool) → InLine t os ss → Ages age ss os ss os 0 b
ages_first age t ss os b h = record { line = λ u i. i; count = 0; many = refl; old = λ i s there o. h.each i s there tt; front = λ e. refl }

drop_there : {X : Type 0} (p : ℕ) (xs : List X) (x : X) → slice_get xs p ≡ Some x → drop p xs ≡ x ∷ drop (suc p) xs
drop_there p [] x e = absurd cc
drop_there zero (y ∷ xs) x e = ap (λ (z : _). z ∷ xs) (some_same y x e)
drop_there (suc p) (y ∷ xs) x e = drop_there p xs x e

-- ---- one opening is passed by, of which no old set is

pub ages_next : (age : Age) (rs : List SetValue) (ps : List Opening) (ss : List SetValue) (os : List Opening) (p : ℕ) (b : Bool) (o : Opening) → slice_get os p ≡ Some o
    → ((i : ℕ) (s : SetValue) → slice_get ss i ≡ Some s → IsOld age s → o ≡ opening s i → ⊥) → (b ≡ true → ⊥) → Ages age rs ps ss os p b → Ages age rs ps ss os (p + 1) b
ages_next age rs ps ss os p b o there none later h = subst (λ n. Ages age rs ps ss os n b) (next p) (record {
  line = h.line;
  count = h.count;
  many = h.many;
  old = passed (IsOld age) ss o (drop (suc p) os) none (subst (AreNoted (IsOld age) ss) (drop_there p os o there) h.old);
  front = λ e. absurd (later e);
})
  where
    next : (n : ℕ) → suc n ≡ n + 1
    next n = omega arith

-- it is taken from the front, where no set at all is of it
pub ages_front : (age : Age) (t : ℕ) (rs : List SetValue) (ps : List Opening) (ss : List SetValue) (os : List Opening) (p : ℕ) (b : Bool) (o : Opening) (qs : List Opening) → slice_get os p ≡ Some o → qs ≡ drop 1 os
    → ((i : ℕ) (s : SetValue) → slice_get ss i ≡ Some s → o ≡ opening s i → ⊥) → b ≡ true → Ages age rs ps ss os p b → Ages age rs ps ss qs p b
ages_front age t rs ps ss os p b o qs there is none first h =
    subst (λ l. Ages age rs ps ss l p b) (sym is) (subst (λ n. Ages age rs ps ss (drop 1 os) n b) (sym zero_is) (front os (subst (λ n. slice_get os n ≡ Some o) zero_is there) (subst (λ n. AreNoted (IsOld age) ss (drop n os)) zero_is h.old) h.line))
  where
    zero_is : p ≡ 0
    zero_is = h.front first

    front : (ls : List Opening) → slice_get ls 0 ≡ Some o → AreNoted (IsOld age) ss ls → ((u : ℕ) → InLine u ps rs → InLine u ls ss) → Ages age rs ps ss (drop 1 ls) 0 b
    front [] e old line = absurd cc
    front (l ∷ ls) e old line = record {
      line = λ u i. let k = line u i in record {
        climbs = k.climbs.1;
        under = k.under.1;
        each = passed (λ s. Unit {0}) ss l ls (λ j s a t f. none j s a (sym (some_same l o e) ∙ f)) k.each;
        turns = k.turns;
      };
      count = h.count;
      many = h.many;
      old = passed (IsOld age) ss l ls (λ j s a t f. none j s a (sym (some_same l o e) ∙ f)) old;
      front = λ e. refl;
    }

-- ---- which sets are of an opening

-- none, where it does not lie there
pub none_lies : (ss : List SetValue) (o : Opening) → lies ss o ≡ false → (i : ℕ) (s : SetValue) → slice_get ss i ≡ Some s → o ≡ opening s i → ⊥
none_lies ss o f i s there e =
    let wrong : true ≡ false = sym (lies_there ss i s there) ∙ (ap (lies ss) (sym e) ∙ f) in
    absurd cc

pub record Lies (ss : List SetValue) (o : Opening) : Type 0 where
  pub own : SetValue
  pub there : slice_get ss o.index ≡ Some own
  pub turn : own.turn ≡ o.turn

pub one_lies : (ss : List SetValue) (o : Opening) → lies ss o ≡ true → Lies ss o
one_lies ss o e = go (slice_get ss o.index) refl e
  where
    go : (r : Option SetValue) → slice_get ss o.index ≡ r → has_number r o.turn ≡ true → Lies ss o
    go None f e = absurd cc
    go (Some s) f e = record { own = s; there = f; turn = eqb-true s.turn o.turn e }

-- a young one
pub young_lies : (age : Age) (ss : List SetValue) (o : Opening) → At ss o.index (λ s. leb (s.opened + age.longest) age.now ≡ false) → (i : ℕ) (s : SetValue) → slice_get ss i ≡ Some s → IsOld age s → o ≡ opening s i → ⊥
young_lies age ss o young i s there old e =
    let wrong : true ≡ false = sym (le-leb (s.opened + age.longest) age.now old) ∙ young s (ap (λ (q : Opening). slice_get ss q.index) e ∙ there) in
    absurd cc

-- ---- the set of the opening goes

module _ (age : Age) (t : ℕ) (rs : List SetValue) (ps : List Opening) (ss ts : List SetValue) (os qs : List Opening) (p : ℕ) (b : Bool) (o : Opening) (l : Lies ss o)
    (gone : At ss o.index (λ s. ts ≡ swap_remove ss o.index s)) (line : qs ≡ noted_at (slice_get ts o.index) o.index os) (first : InLine t ps rs) (h : Ages age rs ps ss os p b) where
  within : o.index < length ss
  within = got_within ss o.index l.own l.there

  is : ts ≡ swap_remove ss o.index l.own
  is = gone l.own l.there

  inside : InLine t os ss
  inside = h.line t first

  pub ages_drop : IsOld age l.own → Ages age rs ps ts qs p b
  ages_drop old = record {
    line = λ u i. subst (λ ls. InLine u ls ts) (sym line) (subst (λ v. InLine u (noted_at (slice_get v o.index) o.index os) v) (sym is) (line_dropped u ss o.index l.own os l.there (h.line u i)));
    count = suc h.count;
    many = many_more age h.count rs ss ts h.many (record { index = o.index; own = l.own; there = l.there; old = old; is = is });
    old = subst (λ ls. AreNoted (IsOld age) ts (drop p ls)) (sym line) (subst (AreNoted (IsOld age) ts) (sym (dropped_at (slice_get ts o.index) o.index p os))
        (subst (λ v. AreNoted (IsOld age) v (noted_at (slice_get v o.index) o.index (drop p os))) (sym is)
        (still_noted (IsOld age) ss o.index l.own (drop p os) within inside.turns.apart h.old)));
    front = h.front;
  }

  -- none is of its number any more
  pub none_left : (i : ℕ) (s : SetValue) → slice_get ts i ≡ Some s → s.turn ≡ o.turn → ⊥
  none_left i s there e =
      let c = comes ss o.index i l.own s within (subst (λ v. slice_get v i ≡ Some s) is there) in
      let at : c.from ≡ o.index = apart_at ss c.from o.index s l.own inside.turns.apart c.there l.there (e ∙ sym l.turn) in
      let w = c.within in
      elim c.place [
        | inl a ↦ (let x = a.0 in let y = a.1 in omega arith)
        | inr a ↦ a.0 (sym a.1 ∙ at)
      ]

  turn_of : (r : Option SetValue) (i : ℕ) (q : Opening) (ls : List Opening) → slice_get ls p ≡ Some o → slice_get (noted_at r i ls) p ≡ Some q → q.turn ≡ o.turn
  turn_of None i q ls a c = ap (λ (v : Opening). v.turn) (some_same q o (sym c ∙ a))
  turn_of (Some m) i q ls a c = go p ls a c
    where
      go : (n : ℕ) (ls : List Opening) → slice_get ls n ≡ Some o → slice_get (noted m.turn i ls) n ≡ Some q → q.turn ≡ o.turn
      go n [] a c = absurd cc
      go (suc n) (x ∷ ls) a c = go n ls a c
      go zero (x ∷ ls) a c =
          let x_is : x ≡ o = some_same x o a in
          which (eqb x.turn m.turn) refl c ∙ ap (λ (v : Opening). v.turn) x_is
        where
          which : (d : Bool) → eqb x.turn m.turn ≡ d → Some (cond d (record { turn = m.turn; index = i }) x) ≡ Some q → q.turn ≡ x.turn
          which true e c = ap (λ (v : Opening). v.turn) (sym (some_same (record { turn = m.turn; index = i }) q c)) ∙ sym (eqb-true x.turn m.turn e)
          which false e c = ap (λ (v : Opening). v.turn) (sym (some_same x q c))

  pub none_of_it : (q : Opening) → slice_get os p ≡ Some o → slice_get qs p ≡ Some q → (i : ℕ) (s : SetValue) → slice_get ts i ≡ Some s → q ≡ opening s i → ⊥
  none_of_it q there now_there i s at e =
      none_left i s at (ap (λ (v : Opening). v.turn) (sym e) ∙ turn_of (slice_get ts o.index) o.index q os there (subst (λ ls. slice_get ls p ≡ Some q) line now_there))

at_length : (n i : ℕ) (os : List Opening) → length (noted n i os) ≡ length os
at_length n i [] = refl
at_length n i (o ∷ os) = ap suc (at_length n i os)

pub noted_length : (r : Option SetValue) (i : ℕ) (os qs : List Opening) → qs ≡ noted_at r i os → length qs ≡ length os
noted_length None i os qs e = ap (λ l. length l) e
noted_length (Some m) i os qs e = ap (λ l. length l) e ∙ at_length m.turn i os

pub drop_one : {X : Type 0} (xs : List X) → 0 < length xs → suc (length (drop 1 xs)) ≡ length xs
drop_one [] l = absurd (omega arith)
drop_one (x ∷ xs) l = refl

-- ---- at the end

drop_past : {X : Type 0} (p : ℕ) (xs : List X) → length xs ≤ p → drop p xs ≡ []
drop_past zero [] l = refl
drop_past (suc p) [] l = refl
drop_past zero (x ∷ xs) l = absurd (omega arith)
drop_past (suc p) (x ∷ xs) l = drop_past p xs (omega arith)

pub ages_end : (age : Age) (rs : List SetValue) (ps : List Opening) (ss : List SetValue) (os : List Opening) (p : ℕ) (b : Bool) → length os ≤ p → Ages age rs ps ss os p b → DropsOld age rs ss
ages_end age rs ps ss os p b l h = record {
  count = h.count;
  many = h.many;
  rest = λ i s there old. subst (λ ls. IsNoted (opening s i) ls) (drop_past p os l) (h.old i s there old);
}

-- the first that may stay is of the least number
pub ages_stop : (age : Age) (t latest : ℕ) (rs : List SetValue) (ps : List Opening) (ss : List SetValue) (os : List Opening) (p : ℕ) (b : Bool) (o : Opening) → slice_get os p ≡ Some o → Lies ss o
    → At ss o.index (λ s. leb (s.opened + age.longest) age.now ≡ false) → b ≡ true → AreInTime latest rs → InLine t ps rs → Ages age rs ps ss os p b → DropsOld age rs ss
ages_stop age t latest rs ps ss os p b o there l young first time inside h = record {
  count = h.count;
  many = h.many;
  rest = λ i s at old. elim (subst (IsNoted (opening s i)) (drop_there p os o there) (h.old i s at old)) [
    | inl e ↦ young_lies age ss o young i s at old e
    | inr m ↦
        let less : o.turn < s.turn = after_noted o.turn (drop (suc p) os) (opening s i) (climbs_after p os o there ((h.line t inside).climbs)) m in
        let lower = (time_many age h.count latest rs ss h.many time).order o.index i l.own s l.there at (subst (λ n. n < s.turn) (sym l.turn) less) in
        young_not (l.own.opened) (young l.own l.there) s.opened old lower
  ];
}
  where
    young_not : (a : ℕ) → leb (a + age.longest) age.now ≡ false → (c : ℕ) → c + age.longest ≤ age.now → a ≤ c → ⊥
    young_not a f c old l =
        let wrong : true ≡ false = sym (le-leb (a + age.longest) age.now (omega arith)) ∙ f in
        absurd cc

    climbs_after : (n : ℕ) (ls : List Opening) (q : Opening) → slice_get ls n ≡ Some q → Climbs ls → AreAfter q.turn (drop (suc n) ls)
    climbs_after n [] q e c = absurd cc
    climbs_after zero (x ∷ ls) q e c = subst (λ (v : Opening). AreAfter v.turn ls) (some_same x q e) c.0
    climbs_after (suc n) (x ∷ ls) q e c = climbs_after n ls q e c.1
