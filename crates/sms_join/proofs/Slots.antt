-- The places of open sets, and what they are as sets.
use Rattle.std.proofs.Common.{◌≡◌, ℕ, zero, suc, ◌+◌, ◌-◌, ◌<◌, ◌≤◌, Bool, true, false, cond, not, ◌||◌, eqb, List, [], ◌∷◌, ◌++◌, take, length, get_or, slice_get, Option, Some, None, is_some, refl, sym, ap, ◌∙◌, subst, arith}
use Rattle.std.proofs.Math.ListN.{set, replicate}
use Rattle.std.proofs.lemmas.Bool.{eqb-true, eq-eqb, ne_eqb, lt-ltb, le-ltb, and_parts, or_parts, not-true}
use Rattle.std.specs.List.{insert, swap_remove, position, position_or_len, filter}
use Rattle.std.specs.Map.{values_of, keys_of}
use Rattle.std.specs.Option.{IfSome}
use Rattle.indexmap.specs.IndexMap.{set_value_at, insert_entry}
use Rattle.sms_join.specs.declared.key.Key.{Key}
use Rattle.sms_join.specs.declared.units.Units.{Units}
use Rattle.sms_join.specs.Key.{same_key, maximum_of}
use Rattle.sms_join.specs.OpenSets.{SetValue, has_set, is_in, units_for, place_of, with_piece}
use Rattle.sms_join.specs.Joiner.Finishing.{lacks_only}
use Rattle.sms_join.specs.OpenSets.Places.{filled, filled_from, set_by}
use Rattle.sms_join.specs.Inside.Slots.{SlotValue, At, HasPlace, AreSlots, key_eq, filled_with, first_places, set_of, sets_of}
use Rattle.sms_join.proofs.Same.{key_turned}

-- ---- places

pub as_many : (n : ℕ) (ps : List (Option Units)) → length (filled_from n ps) ≡ length (filled ps)
as_many n [] = refl
as_many n (None ∷ ps) = as_many (suc n) ps
as_many n (Some u ∷ ps) = ap suc (as_many (suc n) ps)

pub filled_few : (ps : List (Option Units)) → length (filled ps) ≤ length ps
filled_few [] = omega arith
filled_few (None ∷ ps) = let e = filled_few ps in omega arith
filled_few (Some u ∷ ps) = let e = filled_few ps in omega arith

lower : (n m : ℕ) (ps : List (Option Units)) → m < n → is_in m (filled_from n ps) ≡ false
lower n m [] l = refl
lower n m (None ∷ ps) l = lower (suc n) m ps (omega arith)
lower n m (Some u ∷ ps) l = rw (ne_eqb n m (λ e. omega arith)) (lower (suc n) m ps (omega arith))

units_lower : (low n : ℕ) (ps : List (Option Units)) → n < low → units_for n (filled_from low ps) (filled ps) ≡ None
units_lower low n [] l = refl
units_lower low n (None ∷ ps) l = units_lower (suc low) n ps (omega arith)
units_lower low n (Some u ∷ ps) l =
    ap (λ b. cond b (Some u) (units_for n (filled_from (suc low) ps) (filled ps))) (ne_eqb low n (λ e. omega (arith, e))) ∙ units_lower (suc low) n ps (omega arith)

-- the units of a place
pub units_place : (low n : ℕ) (ps : List (Option Units)) (i : ℕ) → n ≡ low + i → units_for n (filled_from low ps) (filled ps) ≡ get_or ps i None
units_place low n [] i e = refl
units_place low n (None ∷ ps) zero e = units_lower (suc low) n ps (omega arith)
units_place low n (None ∷ ps) (suc i) e = units_place (suc low) n ps i (omega arith)
units_place low n (Some u ∷ ps) zero e =
    ap (λ b. cond b (Some u) (units_for n (filled_from (suc low) ps) (filled ps))) (eq-eqb low n (omega arith))
units_place low n (Some u ∷ ps) (suc i) e =
    ap (λ b. cond b (Some u) (units_for n (filled_from (suc low) ps) (filled ps))) (ne_eqb low n (λ f. omega (arith, f)))
    ∙ units_place (suc low) n ps i (omega arith)

-- a sequence has come where its place is filled
pub in_place : (low n : ℕ) (ps : List (Option Units)) (i : ℕ) → n ≡ low + i → is_in n (filled_from low ps) ≡ is_some (get_or ps i None)
in_place low n [] i e = refl
in_place low n (None ∷ ps) zero e = lower (suc low) n ps (omega arith)
in_place low n (Some u ∷ ps) zero e = rw (eq-eqb low n (omega arith)) refl
in_place low n (None ∷ ps) (suc i) e = in_place (suc low) n ps i (omega arith)
in_place low n (Some u ∷ ps) (suc i) e = rw (ne_eqb low n (λ f. omega arith)) (in_place (suc low) n ps i (omega arith))

first_place : (low n : ℕ) (ps : List (Option Units)) → n < low → place_of n (filled_from low ps) ≡ 0
first_place low n [] l = refl
first_place low n (None ∷ ps) l = first_place (suc low) n ps (omega arith)
first_place low n (Some u ∷ ps) l = rw (le-ltb low n (omega arith)) refl

-- one more place is filled
pub sequences_more : (low n : ℕ) (ps : List (Option Units)) (i : ℕ) (u : Units) → n ≡ low + i → i < length ps → is_in n (filled_from low ps) ≡ false
    → filled_from low (set ps i (Some u)) ≡ insert (filled_from low ps) (place_of n (filled_from low ps)) n
sequences_more low n [] i u e l h = absurd (omega arith)
sequences_more low n (None ∷ ps) zero u e l h =
    let s : n ≡ low = omega arith in
    rw (first_place (suc low) n ps (omega arith)) (ap (λ m. m ∷ filled_from (suc low) ps) (sym s))
sequences_more low n (Some v ∷ ps) zero u e l h =
    let t : true ≡ false = sym (rw (eq-eqb low n (omega arith)) refl) ∙ h in cc
sequences_more low n (None ∷ ps) (suc i) u e l h = sequences_more (suc low) n ps i u (omega arith) (omega arith) h
sequences_more low n (Some v ∷ ps) (suc i) u e l h =
    let f : eqb low n ≡ false = ne_eqb low n (λ f. omega arith) in
    let g : is_in n (filled_from (suc low) ps) ≡ false = sym (ap (λ b. b || is_in n (filled_from (suc low) ps)) f) ∙ h in
    rw (lt-ltb low n (omega arith)) (ap (λ l. low ∷ l) (sequences_more (suc low) n ps i u (omega arith) (omega arith) g))

pub units_more : (low n : ℕ) (ps : List (Option Units)) (i : ℕ) (u : Units) → n ≡ low + i → i < length ps → is_in n (filled_from low ps) ≡ false
    → filled (set ps i (Some u)) ≡ insert (filled ps) (place_of n (filled_from low ps)) u
units_more low n [] i u e l h = absurd (omega arith)
units_more low n (None ∷ ps) zero u e l h = rw (first_place (suc low) n ps (omega arith)) refl
units_more low n (Some v ∷ ps) zero u e l h =
    let t : true ≡ false = sym (rw (eq-eqb low n (omega arith)) refl) ∙ h in cc
units_more low n (None ∷ ps) (suc i) u e l h = units_more (suc low) n ps i u (omega arith) (omega arith) h
units_more low n (Some v ∷ ps) (suc i) u e l h =
    let f : eqb low n ≡ false = ne_eqb low n (λ f. omega arith) in
    let g : is_in n (filled_from (suc low) ps) ≡ false = sym (ap (λ b. b || is_in n (filled_from (suc low) ps)) f) ∙ h in
    rw (lt-ltb low n (omega arith)) (ap (λ l. v ∷ l) (units_more (suc low) n ps i u (omega arith) (omega arith) g))

pub filled_more : (low n : ℕ) (ps : List (Option Units)) (i : ℕ) (u : Units) → n ≡ low + i → i < length ps → is_in n (filled_from low ps) ≡ false
    → length (filled (set ps i (Some u))) ≡ suc (length (filled ps))
filled_more low n [] i u e l h = absurd (omega arith)
filled_more low n (None ∷ ps) zero u e l h = refl
filled_more low n (Some v ∷ ps) zero u e l h =
    let t : true ≡ false = sym (rw (eq-eqb low n (omega arith)) refl) ∙ h in cc
filled_more low n (None ∷ ps) (suc i) u e l h = filled_more (suc low) n ps i u (omega arith) (omega arith) h
filled_more low n (Some v ∷ ps) (suc i) u e l h =
    let f : eqb low n ≡ false = ne_eqb low n (λ f. omega arith) in
    let g : is_in n (filled_from (suc low) ps) ≡ false = sym (ap (λ b. b || is_in n (filled_from (suc low) ps)) f) ∙ h in
    ap suc (filled_more (suc low) n ps i u (omega arith) (omega arith) g)

-- where all places are filled but one, they are filled with its units
all_filled : (ps : List (Option Units)) (u : Units) → length (filled ps) ≡ length ps → filled_with u ps ≡ filled ps
all_filled [] u h = refl
all_filled (None ∷ ps) u h = let e = filled_few ps in absurd (omega arith)
all_filled (Some v ∷ ps) u h = ap (λ l. v ∷ l) (all_filled ps u (omega arith))

pub filled_last : (low n : ℕ) (ps : List (Option Units)) (i : ℕ) (u : Units) → n ≡ low + i → i < length ps → is_in n (filled_from low ps) ≡ false
    → suc (length (filled ps)) ≡ length ps → filled_with u ps ≡ filled (set ps i (Some u))
filled_last low n [] i u e l h f = absurd (omega arith)
filled_last low n (None ∷ ps) zero u e l h f = ap (λ l. u ∷ l) (all_filled ps u (omega arith))
filled_last low n (Some v ∷ ps) zero u e l h f =
    let t : true ≡ false = sym (rw (eq-eqb low n (omega arith)) refl) ∙ h in cc
filled_last low n (None ∷ ps) (suc i) u e l h f =
    let z : is_in n (filled_from (suc low) ps) ≡ is_some (get_or ps i None) = in_place (suc low) n ps i (omega arith) in
    absurd (two_empty ps i (omega arith) (sym z ∙ h) (omega arith))
  where
    two_empty : (qs : List (Option Units)) (j : ℕ) → j < length qs → is_some (get_or qs j None) ≡ false → length qs ≤ length (filled qs) → ⊥
    two_empty [] j l h g = omega arith
    two_empty (None ∷ qs) j l h g = let e = filled_few qs in omega arith
    two_empty (Some w ∷ qs) zero l h g = absurd cc
    two_empty (Some w ∷ qs) (suc j) l h g = two_empty qs j (omega arith) h (omega arith)
filled_last low n (Some v ∷ ps) (suc i) u e l h f =
    let f' : eqb low n ≡ false = ne_eqb low n (λ f. omega arith) in
    let g : is_in n (filled_from (suc low) ps) ≡ false = sym (ap (λ b. b || is_in n (filled_from (suc low) ps)) f') ∙ h in
    ap (λ l. v ∷ l) (filled_last (suc low) n ps i u (omega arith) (omega arith) g (omega arith))

none_filled : (n m : ℕ) → filled_from n (replicate m None) ≡ []
none_filled n zero = refl
none_filled n (suc m) = none_filled (suc n) m

no_units : (m : ℕ) → filled (replicate m None) ≡ []
no_units zero = refl
no_units (suc m) = no_units m

first_sequence : (low n m i : ℕ) (u : Units) → n ≡ low + i → i < m → filled_from low (set (replicate m None) i (Some u)) ≡ n ∷ []
first_sequence low n zero i u e l = absurd (omega arith)
first_sequence low n (suc m) zero u e l = let s : low ≡ n = omega arith in rw (none_filled (suc low) m) (ap (λ k. k ∷ []) s)
first_sequence low n (suc m) (suc i) u e l = first_sequence (suc low) n m i u (omega arith) (omega arith)

pub first_units : (m i : ℕ) (u : Units) → i < m → filled (set (replicate m None) i (Some u)) ≡ u ∷ []
first_units zero i u l = absurd (omega arith)
first_units (suc m) zero u l = rw (no_units m) refl
first_units (suc m) (suc i) u l = first_units m i u (omega arith)

pub places_length : (ps : List (Option Units)) (i : ℕ) (p : Option Units) → length (set ps i p) ≡ length ps
places_length [] i p = refl
places_length (q ∷ ps) zero p = refl
places_length (q ∷ ps) (suc i) p = ap suc (places_length ps i p)

pub many_places : (m : ℕ) → length {A = Option Units} (replicate m None) ≡ m
many_places zero = refl
many_places (suc m) = ap suc (many_places m)

-- ---- sets

pub set_more : (k : Key) (opened turn n : ℕ) (ps : List (Option Units)) (u : Units) → 0 < n → n ≤ length ps → is_in n (filled_from 1 ps) ≡ false
    → set_by k opened turn (set ps (n - 1) (Some u)) ≡ with_piece (set_by k opened turn ps) n u
set_more k opened turn n ps u a b h =
    let s = sequences_more 1 n ps (n - 1) u (omega arith) (omega arith) h in
    let t = units_more 1 n ps (n - 1) u (omega arith) (omega arith) h in
    λ i. record { key = k; opened = opened; turn = turn; sequences = s i; units = t i }

pub set_first : (k : Key) (opened turn n m : ℕ) (u : Units) → 0 < n → n ≤ m
    → set_by k opened turn (first_places m n u) ≡ record { key = k; opened = opened; turn = turn; sequences = n ∷ []; units = u ∷ [] }
set_first k opened turn n m u a b =
    let s = first_sequence 1 n m (n - 1) u (omega arith) (omega arith) in
    let t = first_units m (n - 1) u (omega arith) in
    λ i. record { key = k; opened = opened; turn = turn; sequences = s i; units = t i }

pub sets_length : (es : List (Key × SlotValue)) → length (sets_of es) ≡ length es
sets_length [] = refl
sets_length (e ∷ es) = ap suc (sets_length es)

some_same : {X : Type 0} (x y : X) → Some x ≡ Some y → x ≡ y
some_same x y e = cc

-- the set at an index, by its slot
pub at_slot : (es : List (Key × SlotValue)) (i : ℕ) (v : SlotValue) (P : SetValue → Type 0) → AreSlots es → slice_get (values_of es) i ≡ Some v
    → ((k : Key) → length v.places ≡ maximum_of k → P (set_of (k, v))) → At (sets_of es) i P
at_slot [] i v P h is p = λ s there. absurd cc
at_slot (e ∷ es) zero v P h is p =
    let same : e.1 ≡ v = some_same e.1 v is in
    λ s there. subst P (ap (λ (w : SlotValue). set_of (e.0, w)) (sym same) ∙ some_same (set_of e) s there) (p e.0 (ap (λ (w : SlotValue). length w.places) (sym same) ∙ h.0))
at_slot (e ∷ es) (suc i) v P h is p = at_slot es i v P h.1 is p

pub place_at : (es : List (Key × SlotValue)) (i : ℕ) (v : SlotValue) (n : ℕ) → AreSlots es → slice_get (values_of es) i ≡ Some v → HasPlace (sets_of es) i n
    → n ≤ length v.places
place_at es i v n h is p =
    at_slot es i v (λ s. n ≤ maximum_of s.key → n ≤ length v.places) h is (λ k e l. omega arith) p.own p.there p.within

pub place_in : (es : List (Key × SlotValue)) (i n : ℕ) → HasPlace (sets_of es) i n → i < length es
place_in es i n p = go es i p.own p.there
  where
    go : (fs : List (Key × SlotValue)) (j : ℕ) (s : SetValue) → slice_get (sets_of fs) j ≡ Some s → j < length fs
    go [] j s h = absurd cc
    go (f ∷ fs) zero s h = omega arith
    go (f ∷ fs) (suc j) s h = let e = go fs j s h in omega arith

-- the slot at an index changes
pub slots_stay : (es : List (Key × SlotValue)) (i : ℕ) (v w : SlotValue) → AreSlots es → slice_get (values_of es) i ≡ Some v → length w.places ≡ length v.places
    → AreSlots (set_value_at es i w)
slots_stay [] i v w h is e = tt
slots_stay (f ∷ es) zero v w h is e = (e ∙ (ap (λ (x : SlotValue). length x.places) (sym (some_same f.1 v is)) ∙ h.0), h.1)
slots_stay (f ∷ es) (suc i) v w h is e = (h.0, slots_stay es i v w h.1 is e)

pub set_changes : (es : List (Key × SlotValue)) (i : ℕ) (v w : SlotValue) → AreSlots es → slice_get (values_of es) i ≡ Some v
    → (f : SetValue → SetValue) → ((k : Key) → length v.places ≡ maximum_of k → set_of (k, w) ≡ f (set_of (k, v)))
    → At (sets_of es) i (λ s. sets_of (set_value_at es i w) ≡ set (sets_of es) i (f s))
set_changes [] i v w h is f p = λ s there. absurd cc
set_changes (e ∷ es) zero v w h is f p =
    let same : e.1 ≡ v = some_same e.1 v is in
    λ s there.
    ap (λ (x : SetValue). x ∷ sets_of es) (p e.0 (ap (λ (x : SlotValue). length x.places) (sym same) ∙ h.0)
    ∙ ap f (ap (λ (x : SlotValue). set_of (e.0, x)) (sym same) ∙ some_same (set_of e) s there))
set_changes (e ∷ es) (suc i) v w h is f p = λ s there. ap (λ l. set_of e ∷ l) (set_changes es i v w h.1 is f p s there)

-- one is dropped, and the last takes its place
sets_taken : (n : ℕ) (es : List (Key × SlotValue)) → sets_of (take n es) ≡ take n (sets_of es)
sets_taken zero es = refl
sets_taken (suc n) [] = refl
sets_taken (suc n) (e ∷ es) = ap (λ l. set_of e ∷ l) (sets_taken n es)

sets_with : (es : List (Key × SlotValue)) (i : ℕ) (f : Key × SlotValue) → sets_of (set es i f) ≡ set (sets_of es) i (set_of f)
sets_with [] i f = refl
sets_with (e ∷ es) zero f = refl
sets_with (e ∷ es) (suc i) f = ap (λ l. set_of e ∷ l) (sets_with es i f)

set_got : (es : List (Key × SlotValue)) (i : ℕ) (f : Key × SlotValue) → set_of (get_or es i f) ≡ get_or (sets_of es) i (set_of f)
set_got [] i f = refl
set_got (e ∷ es) zero f = refl
set_got (e ∷ es) (suc i) f = set_got es i f

swapped_from : (es : List (Key × SlotValue)) (i n : ℕ) (f : Key × SlotValue)
    → sets_of (take n (set es i (get_or es n f))) ≡ take n (set (sets_of es) i (get_or (sets_of es) n (set_of f)))
swapped_from es i n f =
    sets_taken n (set es i (get_or es n f))
    ∙ ap (take n) (sets_with es i (get_or es n f) ∙ ap (set (sets_of es) i) (set_got es n f))

pub sets_swapped : (es : List (Key × SlotValue)) (i : ℕ) (e : Key × SlotValue) → slice_get es i ≡ Some e
    → At (sets_of es) i (λ s. sets_of (swap_remove es i e) ≡ swap_remove (sets_of es) i s)
sets_swapped es i e is s there =
    swapped_from es i (length es - 1) e
    ∙ (ap (λ n. take (n - 1) (set (sets_of es) i (get_or (sets_of es) (n - 1) (set_of e)))) (sym (sets_length es))
    ∙ ap (swap_remove (sets_of es) i) (same es i is there))
  where
    same : (fs : List (Key × SlotValue)) (j : ℕ) → slice_get fs j ≡ Some e → slice_get (sets_of fs) j ≡ Some s → set_of e ≡ s
    same [] j a b = cc
    same (f ∷ fs) zero a b = ap set_of (sym (some_same f e a)) ∙ some_same (set_of f) s b
    same (f ∷ fs) (suc j) a b = same fs j a b

abbrev IsSlot : Key × SlotValue → Type 0
IsSlot e = length e.1.places ≡ maximum_of e.0

slots_taken : (n : ℕ) (es : List (Key × SlotValue)) → AreSlots es → AreSlots (take n es)
slots_taken zero es h = tt
slots_taken (suc n) [] h = tt
slots_taken (suc n) (e ∷ es) h = (h.0, slots_taken n es h.1)

slots_with : (es : List (Key × SlotValue)) (i : ℕ) (f : Key × SlotValue) → AreSlots es → IsSlot f → AreSlots (set es i f)
slots_with [] i f h g = tt
slots_with (e ∷ es) zero f h g = (g, h.1)
slots_with (e ∷ es) (suc i) f h g = (h.0, slots_with es i f h.1 g)

slot_got : (es : List (Key × SlotValue)) (i : ℕ) (f : Key × SlotValue) → AreSlots es → IsSlot f → IsSlot (get_or es i f)
slot_got [] i f h g = g
slot_got (e ∷ es) zero f h g = h.0
slot_got (e ∷ es) (suc i) f h g = slot_got es i f h.1 g

slot_there : (es : List (Key × SlotValue)) (i : ℕ) (e : Key × SlotValue) → AreSlots es → slice_get es i ≡ Some e → IsSlot e
slot_there [] i e h is = cc
slot_there (f ∷ es) zero e h is = subst IsSlot (some_same f e is) h.0
slot_there (f ∷ es) (suc i) e h is = slot_there es i e h.1 is

pub slots_swapped : (es : List (Key × SlotValue)) (i : ℕ) (e : Key × SlotValue) → AreSlots es → slice_get es i ≡ Some e → AreSlots (swap_remove es i e)
slots_swapped es i e h is =
    let own : IsSlot e = slot_there es i e h is in
    slots_taken (length es - 1) (set es i (get_or es (length es - 1) e))
    (slots_with es i (get_or es (length es - 1) e) h (slot_got es (length es - 1) e h own))

-- some stay
pub sets_filtered : (t : SetValue → Bool) (es : List (Key × SlotValue)) → sets_of (filter (λ e. t (set_of e)) es) ≡ filter t (sets_of es)
sets_filtered t [] = refl
sets_filtered t (e ∷ es) = go (t (set_of e)) (sets_filtered t es)
  where
    go : (b : Bool) → sets_of (filter (λ f. t (set_of f)) es) ≡ filter t (sets_of es)
        → sets_of (cond b (e ∷ filter (λ f. t (set_of f)) es) (filter (λ f. t (set_of f)) es)) ≡ cond b (set_of e ∷ filter t (sets_of es)) (filter t (sets_of es))
    go true h = ap (λ l. set_of e ∷ l) h
    go false h = h

pub slots_filtered : (t : Key × SlotValue → Bool) (es : List (Key × SlotValue)) → AreSlots es → AreSlots (filter t es)
slots_filtered t [] h = tt
slots_filtered t (e ∷ es) h = go (t e) (slots_filtered t es h.1)
  where
    go : (b : Bool) → AreSlots (filter t es) → AreSlots (cond b (e ∷ filter t es) (filter t es))
    go true r = (h.0, r)
    go false r = r

-- one more
pub sets_more : (es : List (Key × SlotValue)) (e : Key × SlotValue) → sets_of (es ++ e ∷ []) ≡ sets_of es ++ set_of e ∷ []
sets_more [] e = refl
sets_more (f ∷ es) e = ap (λ l. set_of f ∷ l) (sets_more es e)

pub slots_more : (es : List (Key × SlotValue)) (e : Key × SlotValue) → AreSlots es → length e.1.places ≡ maximum_of e.0 → AreSlots (es ++ e ∷ [])
slots_more [] e h l = (l, tt)
slots_more (f ∷ es) e h l = (h.0, slots_more es e h.1 l)

-- found by the key
pub place_same : (t : Key → Bool) (es : List (Key × SlotValue)) → position t (keys_of es) ≡ position (λ (s : SetValue). t s.key) (sets_of es)
place_same t es = rw (before es, sets_length es, keys_length es) refl
  where
    keys_length : (fs : List (Key × SlotValue)) → length (keys_of fs) ≡ length fs
    keys_length [] = refl
    keys_length (f ∷ fs) = ap suc (keys_length fs)

    before : (fs : List (Key × SlotValue)) → position_or_len t (keys_of fs) ≡ position_or_len (λ (s : SetValue). t s.key) (sets_of fs)
    before [] = refl
    before (f ∷ fs) = ap (λ n. cond (not (t f.0)) (1 + n) 0) (before fs)

pub found_by : (k l : Key) (es : List (Key × SlotValue)) → k ≡ l → position (key_eq k) (keys_of es) ≡ position (λ (s : SetValue). same_key s.key l) (sets_of es)
found_by k l es e = ap (λ (t : Key → Bool). position t (keys_of es)) same ∙ place_same (λ (j : Key). same_key j l) es
  where
    same : key_eq k ≡ (λ j. same_key j l)
    same = λ i j. (key_turned k j ∙ ap (same_key j) e) i

-- a new key goes last
pub opened_last : (es : List (Key × SlotValue)) (k : Key) (v : SlotValue) → has_set (sets_of es) k ≡ false → insert_entry key_eq es k v ≡ es ++ (k, v) ∷ []
opened_last [] k v h = refl
opened_last (e ∷ es) k v h =
    let q = or_parts (same_key e.0 k) (has_set (sets_of es) k) h in
    let other : key_eq k e.0 ≡ false = key_turned k e.0 ∙ q.0 in
    rw other (ap (λ l. e ∷ l) (opened_last es k v q.1))

-- the last piece of a set
pub text_more : (k : Key) (v : SlotValue) (n : ℕ) (u : Units) → length v.places ≡ maximum_of k → 0 < n → n ≤ maximum_of k → lacks_only (set_of (k, v)) n ≡ true
    → filled_with u v.places ≡ (with_piece (set_of (k, v)) n u).units
text_more k v n u m a b h =
    let q = and_parts (not (is_in n (filled_from 1 v.places))) (eqb (suc (length (filled_from 1 v.places))) (maximum_of k)) h in
    let missing : is_in n (filled_from 1 v.places) ≡ false = not-true _ q.0 in
    let last : suc (length (filled_from 1 v.places)) ≡ maximum_of k = eqb-true _ _ q.1 in
    let many = as_many 1 v.places in
    filled_last 1 n v.places (n - 1) u (omega arith) (omega arith) missing (omega arith)
    ∙ units_more 1 n v.places (n - 1) u (omega arith) (omega arith) missing

pub missing_at : (es : List (Key × SlotValue)) (i : ℕ) (v : SlotValue) (n : ℕ) → AreSlots es → slice_get (values_of es) i ≡ Some v
    → At (sets_of es) i (λ s. is_in n s.sequences ≡ false) → is_in n (filled_from 1 v.places) ≡ false
missing_at [] i v n h is m = absurd cc
missing_at (e ∷ es) zero v n h is m = ap (λ (w : SlotValue). is_in n (filled_from 1 w.places)) (sym (some_same e.1 v is)) ∙ m (set_of e) refl
missing_at (e ∷ es) (suc i) v n h is m = missing_at es i v n h.1 is m

entry_there : (es : List (Key × SlotValue)) (i : ℕ) → i < length es → (e : Key × SlotValue) × (slice_get es i ≡ Some e)
entry_there [] i l = absurd (omega arith)
entry_there (f ∷ es) zero l = (f, refl)
entry_there (f ∷ es) (suc i) l = entry_there es i (omega arith)

-- the one that is dropped
pub record Dropped (es : List (Key × SlotValue)) (i : ℕ) (fs : List (Key × SlotValue)) : Type 0 where
  pub own : Key × SlotValue
  pub there : slice_get es i ≡ Some own
  pub is : fs ≡ swap_remove es i own

pub dropped : (es fs : List (Key × SlotValue)) (i : ℕ) (r : Option (Key × SlotValue)) → r ≡ slice_get es i → i < length es
    → IfSome r (λ e. fs ≡ swap_remove es i e) → Dropped es i fs
dropped es fs i r at l h =
    let e = entry_there es i l in
    record { own = e.0; there = e.1; is = subst (λ (o : Option (Key × SlotValue)). IfSome o (λ f. fs ≡ swap_remove es i f)) (at ∙ e.1) h }

pub first_length : (m n : ℕ) (u : Units) → length (first_places m n u) ≡ m
first_length m n u = places_length (replicate m None) (n - 1) (Some u) ∙ many_places m

-- the set at an index, by its entry
pub sets_none : (es : List (Key × SlotValue)) (i : ℕ) → slice_get es i ≡ None → slice_get (sets_of es) i ≡ None
sets_none [] i e = refl
sets_none (f ∷ es) zero e = absurd cc
sets_none (f ∷ es) (suc i) e = sets_none es i e

pub sets_some : (es : List (Key × SlotValue)) (i : ℕ) (e : Key × SlotValue) → slice_get es i ≡ Some e → slice_get (sets_of es) i ≡ Some (set_of e)
sets_some [] i e h = absurd cc
sets_some (f ∷ es) zero e h = ap (λ (g : Key × SlotValue). Some (set_of g)) (some_same f e h)
sets_some (f ∷ es) (suc i) e h = sets_some es i e h

pub slot_places : (es : List (Key × SlotValue)) (i : ℕ) (e : Key × SlotValue) → AreSlots es → slice_get es i ≡ Some e → length e.1.places ≡ maximum_of e.0
slot_places es i e h is = slot_there es i e h is
