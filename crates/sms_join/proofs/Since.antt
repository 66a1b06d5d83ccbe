-- A moment before which no set was opened, as sets come and go.
use Rattle.std.proofs.Common.{◌≡◌, ℕ, zero, suc, ◌+◌, ◌<◌, ◌≤◌, inl, inr, false, leb, min, List, [], ◌∷◌, ◌++◌, length, get_or, slice_get, Some, refl, sym, ap, ◌∙◌, subst, arith}
use Rattle.std.proofs.Math.ListN.{set}
use Rattle.std.proofs.lemmas.Bool.{leb-false}
use Rattle.std.specs.List.{swap_remove, fold}
use Rattle.std.specs.Map.{values_of}
use Rattle.sms_join.specs.declared.key.Key.{Key}
use Rattle.sms_join.specs.declared.age.Age.{Age}
use Rattle.sms_join.specs.OpenSets.{SetValue}
use Rattle.sms_join.specs.Inside.Dropping.{DropsMany, DropsOld}
use Rattle.sms_join.specs.declared.line.Opening.{Opening}
use Rattle.sms_join.specs.Inside.Lines.{AreAfter, AreInTime, AreSince, InLine, IsNoted}
use Rattle.sms_join.specs.Inside.Slots.{SlotValue, sets_of}
use Rattle.sms_join.proofs.InLine.{comes, got_more, got_within, put_at}

some_same : {X : Type 0} (x y : X) → Some x ≡ Some y → x ≡ y
some_same x y e = cc

pub since_put : (n : ℕ) (ss : List SetValue) (i : ℕ) (s v : SetValue) → slice_get ss i ≡ Some s → v.opened ≡ s.opened → AreSince n ss → AreSince n (set ss i v)
since_put n ss i s v there e h j u at = elim (put_at ss i j v u at) [
  | inl p ↦ (let l = h i s there in let x = ap (λ (w : SetValue). w.opened) p.1 in omega arith)
  | inr p ↦ h j u p.1
]

pub since_left : (n : ℕ) (ss ts : List SetValue) (i : ℕ) (s : SetValue) → i < length ss → ts ≡ swap_remove ss i s → AreSince n ss → AreSince n ts
since_left n ss ts i s l is h =
    subst (AreSince n) (sym is) (λ j u at. let c = comes ss i j s u l at in h c.from u c.there)

pub since_many : (age : Age) (k n : ℕ) (ss ts : List SetValue) → DropsMany age k ss ts → AreSince n ss → AreSince n ts
since_many age zero n ss ts d h = subst (AreSince n) d h
since_many age (suc k) n ss ts d h =
    let one = d.2 in
    since_left n d.0 ts one.index one.own (got_within d.0 one.index one.own one.there) one.is (since_many age k n ss d.0 d.1 h)

pub since_more : (n m : ℕ) (ss new : List SetValue) (v : SetValue) → new ≡ ss ++ v ∷ [] → n ≤ v.opened → (0 < length ss → n ≤ m) → AreSince m ss → AreSince n new
since_more n m ss new v is low before h = subst (AreSince n) (sym is) (λ i s at. elim (got_more ss v i s at) [
  | inl a ↦ (let l = h i s a in let w = got_within ss i s a in let b = before (omega arith) in omega arith)
  | inr a ↦ (let x = ap (λ (w : SetValue). w.opened) a.1 in omega arith)
])

-- where the bound is not old, no set is
pub none_past : (n : ℕ) (age : Age) (ss : List SetValue) → AreSince n ss → leb (n + age.longest) age.now ≡ false → DropsOld age ss ss
none_past n age ss h e = record {
  count = 0;
  many = refl;
  rest = λ i s at old. let l = h i s at in let b = leb-false (n + age.longest) age.now e in omega arith;
}

least_low : (es : List (Key × SlotValue)) (n : ℕ) → fold (λ l (s : SlotValue). min l s.opened) n (values_of es) ≤ n
least_low [] n = omega arith
least_low (e ∷ es) n = let a = least_low es (min n e.1.opened) in omega arith

-- the least of their moments
pub since_least : (es : List (Key × SlotValue)) (n : ℕ) → AreSince (fold (λ l (s : SlotValue). min l s.opened) n (values_of es)) (sets_of es)
since_least [] n i s at = absurd cc
since_least (e ∷ es) n zero s at =
    let a = least_low es (min n e.1.opened) in
    let x = ap (λ (w : SetValue). w.opened) (some_same _ s at) in
    omega arith
since_least (e ∷ es) n (suc i) s at = since_least es (min n e.1.opened) i s at

-- what is noted behind an opening came after it
noted_after : (n : ℕ) (x : Opening) (os : List Opening) → AreAfter n os → IsNoted x os → n < x.turn
noted_after n x [] a h = absurd h
noted_after n x (o ∷ os) a h = elim h [
  | inl e ↦ (let t = ap (λ (p : Opening). p.turn) e in let b = a.0 in omega arith)
  | inr q ↦ noted_after n x os a.1 q
]

same_set : (ss : List SetValue) (i j : ℕ) (s u : SetValue) → slice_get ss i ≡ Some s → slice_get ss j ≡ Some u → i ≡ j → s ≡ u
same_set ss i j s u here at e = some_same s u (sym here ∙ (ap (slice_get ss) e ∙ at))

-- the set of the first opening was opened first
pub since_first : (t latest : ℕ) (o : Opening) (os : List Opening) (ss : List SetValue) (s : SetValue) → slice_get ss o.index ≡ Some s → s.turn ≡ o.turn
    → InLine t (o ∷ os) ss → AreInTime latest ss → AreSince s.opened ss
since_first t latest o os ss s there turn line time j u at = elim (line.each j u at tt) [
  | inl e ↦ (
      let same = same_set ss o.index j s u there at (ap (λ (p : Opening). p.index) e) in
      let x = ap (λ (w : SetValue). w.opened) same in
      omega arith
      )
  | inr q ↦ (
      let after = noted_after o.turn (record { turn = u.turn; index = j }) os line.climbs.0 q in
      time.order o.index j s u there at (omega arith)
      )
]

-- the same, where it is read from the line
pub since_front : (t latest : ℕ) (os : List Opening) (o : Opening) (ss : List SetValue) (s : SetValue) → 0 < length os → o ≡ get_or os 0 o → slice_get ss o.index ≡ Some s → s.turn ≡ o.turn
    → InLine t os ss → AreInTime latest ss → AreSince s.opened ss
since_front t latest [] o ss s l e there turn line time = absurd (omega arith)
since_front t latest (p ∷ os) o ss s l e there turn line time =
    since_first t latest o os ss s there turn (subst (λ (q : Opening). InLine t (q ∷ os) ss) (sym e) line) time

-- where there is no set, none was opened before any moment
pub since_none : (n : ℕ) (es : List (Key × SlotValue)) → length es ≡ 0 → AreSince n (sets_of es)
since_none n [] l i s at = absurd cc
since_none n (e ∷ es) l i s at = absurd (omega arith)
