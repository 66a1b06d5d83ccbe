-- At which seats of the line the openings of the sets stand.
use Rattle.std.proofs.Common.{◌≡◌, ◌≢◌, ℕ, zero, suc, ◌+◌, ◌-◌, ◌<◌, ◌≤◌, ◌⊎◌, inl, inr, Bool, false, cond, eqb, List, [], ◌∷◌, ◌++◌, drop, length, slice_get, Option, Some, None, refl, sym, ap, ◌∙◌, subst, arith}
use Rattle.std.proofs.lemmas.Bool.{eq-eqb, ne_eqb}
use Rattle.std.specs.Map.{values_of}
use Rattle.indexmap.specs.IndexMap.{set_value_at}
use Rattle.sms_join.specs.declared.age.Age.{Age}
use Rattle.sms_join.specs.declared.key.Key.{Key}
use Rattle.sms_join.specs.declared.line.Opening.{Opening}
use Rattle.sms_join.specs.OpenSets.{SetValue}
use Rattle.sms_join.specs.Inside.Slots.{SlotValue, AreSlots, set_of, sets_of}
use Rattle.sms_join.specs.Inside.Turns.{AreApart}
use Rattle.sms_join.specs.Inside.Lines.{noted, noted_at, AreSeated}
use Rattle.sms_join.proofs.InLine.{opening, Comes, comes, got_within, apart_at}
use Rattle.sms_join.proofs.Passing.{Ages}
use Rattle.sms_join.proofs.Slots.{Dropped, sets_length, sets_none, sets_some}

some_same : {X : Type 0} (x y : X) → Some x ≡ Some y → x ≡ y
some_same x y e = cc

-- where a set stands
abbrev pub IsSeated : ℕ → List Opening → ℕ → Key × SlotValue → Type 0
IsSeated f os i e = (f ≤ e.1.seat) × (slice_get os (e.1.seat - f) ≡ Some (record { turn = e.1.turn; index = i }))

-- ---- a slot changes

-- what is at an index after a slot is written
pub got_put : (es : List (Key × SlotValue)) (i j : ℕ) (v w : SlotValue) (e : Key × SlotValue) → slice_get (values_of es) i ≡ Some v → slice_get (set_value_at es i w) j ≡ Some e
    → ((i ≡ j) × (e.1 ≡ w) × (slice_get es j ≡ Some (e.0, v))) ⊎ ((i ≢ j) × (slice_get es j ≡ Some e))
got_put [] i j v w e is at = absurd cc
got_put (x ∷ es) zero zero v w e is at =
    let own : x.1 ≡ v = some_same x.1 v is in
    let same : (x.0, w) ≡ e = some_same (x.0, w) e at in
    let key : x.0 ≡ e.0 = ap (λ (y : Key × SlotValue). y.0) same in
    inl (refl, ap (λ (y : Key × SlotValue). y.1) (sym same), (λ k. Some (key k, own k)))
got_put (x ∷ es) zero (suc j) v w e is at = inr ((λ f. omega arith), at)
got_put (x ∷ es) (suc i) zero v w e is at = inr ((λ f. omega arith), at)
got_put (x ∷ es) (suc i) (suc j) v w e is at = elim (got_put es i j v w e is at) [
  | inl h ↦ inl (ap suc h.0, h.1, h.2)
  | inr h ↦ inr ((λ f. h.0 (omega arith)), h.1)
]

pub seats_put : (f : ℕ) (os : List Opening) (es : List (Key × SlotValue)) (i : ℕ) (v w : SlotValue) → slice_get (values_of es) i ≡ Some v → w.turn ≡ v.turn → w.seat ≡ v.seat
    → AreSeated f os es → AreSeated f os (set_value_at es i w)
seats_put f os es i v w is turn seat h j e at = elim (got_put es i j v w e is at) [
  | inl p ↦
      let own : IsSeated f os j (e.0, v) = h j (e.0, v) p.2 in
      let t : v.turn ≡ e.1.turn = sym turn ∙ ap (λ (x : SlotValue). x.turn) (sym p.1) in
      let s : v.seat ≡ e.1.seat = sym seat ∙ ap (λ (x : SlotValue). x.seat) (sym p.1) in
      (subst (λ n. f ≤ n) s own.0, ap (λ n. slice_get os (n - f)) (sym s) ∙ (own.1 ∙ ap (λ n. Some (record { turn = n; index = j })) t))
  | inr p ↦ h j e p.1
]

-- its set is the same one
pub sets_same : (es : List (Key × SlotValue)) (i : ℕ) (v w : SlotValue) → slice_get (values_of es) i ≡ Some v → ((k : Key) → set_of (k, w) ≡ set_of (k, v)) → sets_of (set_value_at es i w) ≡ sets_of es
sets_same [] i v w is p = refl
sets_same (e ∷ es) zero v w is p = ap (λ s. s ∷ sets_of es) (p e.0 ∙ ap (λ (x : SlotValue). set_of (e.0, x)) (sym (some_same e.1 v is)))
sets_same (e ∷ es) (suc i) v w is p = ap (λ l. set_of e ∷ l) (sets_same es i v w is p)

pub as_many_sets : (es fs : List (Key × SlotValue)) → sets_of es ≡ sets_of fs → length es ≡ length fs
as_many_sets es fs e = sym (sets_length es) ∙ (ap (λ l. length l) e ∙ sets_length fs)

-- ---- one more opening, and its set

got_front : (os ps : List Opening) (n : ℕ) (o : Opening) → slice_get os n ≡ Some o → slice_get (os ++ ps) n ≡ Some o
got_front [] ps n o e = absurd cc
got_front (x ∷ os) ps zero o e = e
got_front (x ∷ os) ps (suc n) o e = got_front os ps n o e

got_last : (os : List Opening) (n : ℕ) (o : Opening) → n ≡ length os → slice_get (os ++ o ∷ []) n ≡ Some o
got_last [] zero o e = refl
got_last [] (suc n) o e = absurd (omega arith)
got_last (x ∷ os) zero o e = absurd (omega arith)
got_last (x ∷ os) (suc n) o e = got_last os n o (omega arith)

pub seats_opened : (f : ℕ) (os ps : List Opening) (o : Opening) (es : List (Key × SlotValue)) → ps ≡ os ++ o ∷ [] → AreSeated f os es → AreSeated f ps es
seats_opened f os ps o es is h i e at =
    let own : IsSeated f os i e = h i e at in
    (own.0, ap (λ l. slice_get l (e.1.seat - f)) is ∙ got_front os (o ∷ []) (e.1.seat - f) (record { turn = e.1.turn; index = i }) own.1)

entry_more : (es : List (Key × SlotValue)) (v : Key × SlotValue) (i : ℕ) (e : Key × SlotValue) → slice_get (es ++ v ∷ []) i ≡ Some e → (slice_get es i ≡ Some e) ⊎ ((i ≡ length es) × (e ≡ v))
entry_more [] v zero e at = inr (refl, sym (some_same v e at))
entry_more [] v (suc i) e at = absurd cc
entry_more (x ∷ es) v zero e at = inl at
entry_more (x ∷ es) v (suc i) e at = elim (entry_more es v i e at) [
  | inl h ↦ inl h
  | inr h ↦ inr (ap suc h.0, h.1)
]

pub seats_more : (f : ℕ) (os ps : List Opening) (o : Opening) (es new : List (Key × SlotValue)) (v : Key × SlotValue) → ps ≡ os ++ o ∷ [] → new ≡ es ++ v ∷ []
    → o.index ≡ length es → v.1.turn ≡ o.turn → v.1.seat ≡ f + length os → AreSeated f os es → AreSeated f ps new
seats_more f os ps o es new v is more index turn seat h i e at =
    elim (entry_more es v i e (ap (λ l. slice_get l i) (sym more) ∙ at)) [
      | inl a ↦ seats_opened f os ps o es is h i e a
      | inr a ↦
          let s : e.1.seat ≡ f + length os = ap (λ (x : Key × SlotValue). x.1.seat) a.1 ∙ seat in
          let t : o.turn ≡ e.1.turn = sym turn ∙ ap (λ (x : Key × SlotValue). x.1.turn) (sym a.1) in
          let j : o.index ≡ i = index ∙ sym a.0 in
          let there : slice_get ps (e.1.seat - f) ≡ Some o = ap (λ l. slice_get l (e.1.seat - f)) is ∙ got_last os (e.1.seat - f) o (omega (arith, s)) in
          (omega (arith, s), there ∙ (λ k. Some (record { turn = t k; index = j k })))
    ]

-- ---- a set goes, and the last one takes its place

noted_got : (n i p : ℕ) (os : List Opening) (o : Opening) → slice_get os p ≡ Some o → slice_get (noted n i os) p ≡ Some (cond (eqb o.turn n) (record { turn = n; index = i }) o)
noted_got n i p [] o e = absurd cc
noted_got n i zero (x ∷ os) o e = ap (λ (q : Opening). Some (cond (eqb q.turn n) (record { turn = n; index = i }) q)) (some_same x o e)
noted_got n i (suc p) (x ∷ os) o e = noted_got n i p os o e

pub seats_gone : (f : ℕ) (es fs : List (Key × SlotValue)) (i : ℕ) (os qs : List Opening) → i < length es → Dropped es i fs → AreApart (sets_of es)
    → qs ≡ noted_at (slice_get (sets_of fs) i) i os → AreSeated f os es → AreSeated f qs fs
seats_gone f es fs i os qs l d a is h j e at = subst (λ ls. IsSeated f ls j e) (sym is) (go (slice_get fs i) refl)
  where
    from : (k : ℕ) (x : Key × SlotValue) → slice_get fs k ≡ Some x → Comes es i k x
    from k x there = comes es i k d.own x l (ap (λ ls. slice_get ls k) (sym d.is) ∙ there)

    go : (r : Option (Key × SlotValue)) → slice_get fs i ≡ r → IsSeated f (noted_at (slice_get (sets_of fs) i) i os) j e
    go None g = subst (λ (r : Option SetValue). IsSeated f (noted_at r i os) j e) (sym (sets_none fs i g)) (elim (from j e at).place [
      | inl p ↦ (let wrong : None ≡ Some e = sym g ∙ (ap (slice_get fs) (sym p.0) ∙ at) in absurd cc)
      | inr p ↦ h j e (ap (slice_get es) (sym p.1) ∙ (from j e at).there)
    ])
    go (Some m) g = subst (λ (r : Option SetValue). IsSeated f (noted_at r i os) j e) (sym (sets_some fs i m g)) (elim (from j e at).place [
      | inl p ↦
          let c = from j e at in
          let same : m ≡ e = some_same m e (sym g ∙ (ap (slice_get fs) (sym p.0) ∙ at)) in
          let own : IsSeated f os c.from e = h c.from e c.there in
          let now : slice_get (noted m.1.turn i os) (e.1.seat - f) ≡ Some (cond (eqb e.1.turn m.1.turn) (record { turn = m.1.turn; index = i }) (record { turn = e.1.turn; index = c.from })) =
          noted_got m.1.turn i (e.1.seat - f) os (record { turn = e.1.turn; index = c.from }) own.1 in
          let turn : m.1.turn ≡ e.1.turn = ap (λ (x : Key × SlotValue). x.1.turn) same in (
            own.0,
            now ∙ (ap (λ (b : Bool). Some (cond b (record { turn = m.1.turn; index = i }) (record { turn = e.1.turn; index = c.from }))) (eq-eqb e.1.turn m.1.turn (sym turn))
                ∙ (λ k. Some (record { turn = turn k; index = sym p.0 k }))),
          )
      | inr p ↦ elim (from i m g).place [
        | inl k ↦
            let there : slice_get es j ≡ Some e = ap (slice_get es) (sym p.1) ∙ (from j e at).there in
            let own : IsSeated f os j e = h j e there in
            let c = from i m g in
            let other : eqb e.1.turn m.1.turn ≡ false =
            ne_eqb e.1.turn m.1.turn (λ t. let g = apart_at (sets_of es) j c.from (set_of e) (set_of m) a (sets_some es j e there) (sets_some es c.from m c.there) t in let u = p.2 in let w = k.1 in omega arith) in (
              own.0,
              noted_got m.1.turn i (e.1.seat - f) os (record { turn = e.1.turn; index = j }) own.1
                  ∙ ap (λ (b : Bool). Some (cond b (record { turn = m.1.turn; index = i }) (record { turn = e.1.turn; index = j }))) other,
            )
        | inr k ↦ absurd (k.0 refl)
      ]
    ])

-- where the set that moves comes from, and its opening
pub record Moves (f : ℕ) (os : List Opening) (m : Key × SlotValue) : Type 0 where
  pub from : ℕ
  pub seated : IsSeated f os from m
  pub within : m.1.seat - f < length os

pub moves : (f : ℕ) (es fs : List (Key × SlotValue)) (i : ℕ) (m : Key × SlotValue) (os : List Opening) → i < length es → Dropped es i fs → AreSeated f os es → slice_get fs i ≡ Some m → Moves f os m
moves f es fs i m os l d h at =
    let c : Comes es i i m = comes es i i d.own m l (ap (λ ls. slice_get ls i) (sym d.is) ∙ at) in
    let own : IsSeated f os c.from m = h c.from m c.there in
    record { from = c.from; seated = own; within = got_within os (m.1.seat - f) (record { turn = m.1.turn; index = c.from }) own.1 }

pub moved_noted : (f i k : ℕ) (os qs : List Opening) (m : Key × SlotValue) → Moves f os m → k ≡ m.1.seat → ((o : Opening) → slice_get os (k - f) ≡ Some o → qs ≡ noted o.turn i os) → qs ≡ noted m.1.turn i os
moved_noted f i k os qs m h e is = is (record { turn = m.1.turn; index = h.from }) (ap (λ n. slice_get os (n - f)) e ∙ h.seated.1)

-- ---- an opening is taken from the front, of which no set is

drop_got : (os : List Opening) (n : ℕ) → slice_get os (suc n) ≡ slice_get (drop 1 os) n
drop_got [] n = refl
drop_got (x ∷ os) n = refl

pub seats_front : (f : ℕ) (os qs : List Opening) (o : Opening) (es : List (Key × SlotValue)) → slice_get os 0 ≡ Some o → qs ≡ drop 1 os
    → ((i : ℕ) (s : SetValue) → slice_get (sets_of es) i ≡ Some s → o ≡ opening s i → ⊥) → AreSeated f os es → AreSeated (f + 1) qs es
seats_front f os qs o es there is none h i e at = subst (λ ls. IsSeated (f + 1) ls i e) (sym is) (go (e.1.seat - f) refl (h i e at))
  where
    go : (k : ℕ) → e.1.seat - f ≡ k → IsSeated f os i e → IsSeated (f + 1) (drop 1 os) i e
    go zero k own =
        let first : slice_get os 0 ≡ Some (record { turn = e.1.turn; index = i }) = ap (slice_get os) (sym k) ∙ own.1 in
        absurd (none i (set_of e) (sets_some es i e at) (some_same o (record { turn = e.1.turn; index = i }) (sym there ∙ first)))
    go (suc n) k own =
        let place : n ≡ e.1.seat - (f + 1) = omega (arith, k) in
        (omega (arith, k), ap (slice_get (drop 1 os)) (sym place) ∙ (sym (drop_got os n) ∙ (ap (slice_get os) (sym k) ∙ own.1)))

-- ---- old sets go

-- as far as the walk has come, where the first opening stands at this seat, and the last before that of this number
abbrev pub Walks : Age → Bool → List SetValue → List Opening → ℕ → List (Key × SlotValue) → List Opening → ℕ → ℕ → Type 0
Walks age b rs ps n es os p f = AreSlots es × Ages age rs ps (sets_of es) os p b × AreSeated f os es × (f + length os ≤ n)
