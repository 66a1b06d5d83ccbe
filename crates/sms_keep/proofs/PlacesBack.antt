-- A set by its places is saved with these places.
use Rattle.std.proofs.Common.{◌≡◌, ℕ, suc, ◌<◌, ◌≤◌, Bool, true, false, cond, eqb, List, [], ◌∷◌, map, length, Option, Some, None, option_map, refl, sym, ap, ◌∙◌, arith}
use Rattle.std.proofs.lemmas.Bool.{ne_eqb, eq-eqb, and_parts}
use Rattle.std.specs.List.{list_any}
use Rattle.sms_join.specs.declared.key.Key.{Key}
use Rattle.sms_join.specs.declared.key.Key.TheVariants.{Single, Segmented, SingleTo, SegmentedTo}
use Rattle.sms_join.specs.declared.units.Units.{Units}
use Rattle.sms_join.specs.Key.{maximum_of}
use Rattle.sms_join.specs.OpenSets.{SetValue, units_for}
use Rattle.sms_join.specs.OpenSets.Places.{filled, filled_from, set_by}
use Rattle.sms_saved.specs.Fits.{has_come, is_missing, is_open}
use Rattle.sms_saved.specs.declared.state.Key.{Key as SavedKey}
use Rattle.sms_saved.specs.Value.{UnitsValue, SetValue as SavedSet, maximum_of as saved_maximum}
use Rattle.sms_keep.specs.Saved.{saved_units, saved_key, saved_message, saved_set, places_from}
use Rattle.sms_keep.specs.Held.{unnumbered}

-- ---- the units of a sequence

-- the units of this sequence, where the first place is that of the other
abbrev units_in : ℕ → ℕ → List (Option Units) → Option Units
units_in k n ps = units_for k (filled_from n ps) (filled ps)

none_below : (k n : ℕ) (ps : List (Option Units)) → k < n → units_in k n ps ≡ None
none_below k n [] l = refl
none_below k n (None ∷ ps) l = none_below k (suc n) ps (omega (arith, l))
none_below k n (Some u ∷ ps) l =
    let e : eqb n k ≡ false = ne_eqb n k (λ h. omega (arith, h, l)) in
    ap (λ (b : Bool). cond b (Some u) (units_in k (suc n) ps)) e ∙ none_below k (suc n) ps (omega (arith, l))

first_in : (n : ℕ) (p : Option Units) (ps : List (Option Units)) → units_in n n (p ∷ ps) ≡ p
first_in n None ps = none_below n (suc n) ps (omega arith)
first_in n (Some u) ps = ap (λ (b : Bool). cond b (Some u) (units_in n (suc n) ps)) (eq-eqb n n refl)

later_in : (k n : ℕ) (p : Option Units) (ps : List (Option Units)) → suc n ≤ k → units_in k n (p ∷ ps) ≡ units_in k (suc n) ps
later_in k n None ps l = refl
later_in k n (Some u) ps l =
    let e : eqb n k ≡ false = ne_eqb n k (λ h. omega (arith, h, l)) in
    ap (λ (b : Bool). cond b (Some u) (units_in k (suc n) ps)) e

-- a set that has just these units has these places
same_places : (s : SetValue) (n : ℕ) (ps : List (Option Units)) → ((k : ℕ) → n ≤ k → units_for k s.sequences s.units ≡ units_in k n ps) → places_from n (length ps) s ≡ map (option_map saved_units) ps
same_places s n [] h = refl
same_places s n (p ∷ ps) h =
    let first : units_for n s.sequences s.units ≡ p = h n (omega arith) ∙ first_in n p ps in
    let others = same_places s (suc n) ps (λ k l. h k (omega (arith, l)) ∙ later_in k n p ps l) in
    ap (λ (q : Option Units). option_map saved_units q ∷ places_from (suc n) (length ps) s) first
    ∙ ap (λ (qs : List (Option UnitsValue)). option_map saved_units p ∷ qs) others

pub places_are : (key : Key) (moment turn maximum : ℕ) (ps : List (Option Units)) → length ps ≡ maximum → places_from 1 maximum (set_by key moment turn ps) ≡ map (option_map saved_units) ps
places_are key moment turn maximum ps e =
    ap (λ (m : ℕ). places_from 1 m (set_by key moment turn ps)) (sym e)
    ∙ same_places (set_by key moment turn ps) 1 ps (λ k l. refl)

-- ---- how many have come

abbrev saved_places : List (Option Units) → List (Option UnitsValue)
saved_places ps = map (option_map saved_units) ps

pub some_come : (ps : List (Option Units)) → list_any has_come (saved_places ps) ≡ true → 0 < length (filled ps)
some_come [] h = absurd cc
some_come (None ∷ ps) h = some_come ps h
some_come (Some u ∷ ps) h = omega arith

few_come : (ps : List (Option Units)) → length (filled ps) ≤ length ps
few_come [] = omega arith
few_come (None ∷ ps) = omega (arith, few_come ps)
few_come (Some u ∷ ps) = omega (arith, few_come ps)

pub some_miss : (ps : List (Option Units)) → list_any is_missing (saved_places ps) ≡ true → length (filled ps) < length ps
some_miss [] h = absurd cc
some_miss (None ∷ ps) h = omega (arith, few_come ps)
some_miss (Some u ∷ ps) h = omega (arith, some_miss ps h)

pub open_places : (ps : List (Option Units)) (own : List (Option UnitsValue)) → saved_places ps ≡ own → is_open own ≡ true → (0 < length (filled ps)) × (length (filled ps) < length ps)
open_places ps own e h =
    let both = and_parts (list_any has_come (saved_places ps)) (list_any is_missing (saved_places ps)) (ap is_open e ∙ h) in
    (some_come ps both.0, some_miss ps both.1)

pub as_many : (ps : List (Option Units)) (own : List (Option UnitsValue)) → saved_places ps ≡ own → length ps ≡ length own
as_many ps own e = sym (length_map ps) ∙ ap length e where
  length_map : (qs : List (Option Units)) → length (saved_places qs) ≡ length qs
  length_map [] = refl
  length_map (q ∷ qs) = ap suc (length_map qs)

-- a set by its places is the one that was saved
pub maximum_is : (k : Key) (own : SavedKey) → saved_key k ≡ own → saved_maximum own.message ≡ maximum_of k
maximum_is k own e = ap (λ (x : SavedKey). saved_maximum x.message) (sym e) ∙ same k where
  same : (l : Key) → saved_maximum (saved_message l) ≡ maximum_of l
  same (Single origin stamp) = refl
  same (Segmented origin width reference maximum) = refl
  same (SingleTo recipient origin stamp) = refl
  same (SegmentedTo recipient origin width reference maximum) = refl

pub set_back : (own : SavedSet) (k : Key) (turn : ℕ) (ps : List (Option Units)) → saved_key k ≡ own.key → map (option_map saved_units) ps ≡ own.places → length own.places ≡ saved_maximum own.key.message
    → unnumbered (saved_set (set_by k own.moment turn ps)) ≡ unnumbered own
set_back own k turn ps e f count =
    let many : length ps ≡ maximum_of k = as_many ps own.places f ∙ (count ∙ maximum_is k own.key e) in
    let places : places_from 1 (maximum_of k) (set_by k own.moment turn ps) ≡ own.places = places_are k own.moment turn (maximum_of k) ps many ∙ f in
    λ i. record { key = e i; moment = own.moment; opening = 0; places = places i }
