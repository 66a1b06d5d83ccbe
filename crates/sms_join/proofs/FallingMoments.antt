-- The moments of finishings, the newest first, and which are forgotten.
use Rattle.std.proofs.Common.{◌≡◌, ℕ, zero, suc, ◌+◌, ◌-◌, ◌≤◌, Bool, true, false, cond, not, leb, max, List, [], ◌∷◌, ◌++◌, take, length, slice_get, Option, None, Some, refl, sym, ap, ◌∙◌, subst, arith}
use Rattle.std.proofs.lemmas.Bool.{leb-true, leb-false, le-leb}
use Rattle.std.proofs.lemmas.List.{append-nil, append_assoc, take_all}
use Rattle.std.specs.List.{filter}
use Rattle.circular_buffer.specs.Buffer.{last_item}
use Rattle.sms_join.specs.declared.age.Age.{Age}
use Rattle.sms_join.specs.declared.key.Key.{Key}
use Rattle.sms_join.specs.Gateway.Finishings.{not_before, Fall, FallFrom, is_forgotten, finishings_at, keys_at}

-- ---- falling moments

fall_lower : (n m : ℕ) (ms : List ℕ) → m ≤ n → FallFrom m ms → FallFrom n ms
fall_lower n m [] l h = tt
fall_lower n m (x ∷ ms) l h = (let a = h.0 in omega arith, h.1)

fall_tail : (m : ℕ) (ms : List ℕ) → FallFrom m ms → Fall ms
fall_tail m [] h = tt
fall_tail m (x ∷ ms) h = h.1

fall_taken : (n k : ℕ) (ms : List ℕ) → FallFrom n ms → FallFrom n (take k ms)
fall_taken n zero ms h = tt
fall_taken n (suc k) [] h = tt
fall_taken n (suc k) (m ∷ ms) h = (h.0, fall_taken m k ms h.1)

-- one more is noted
pub fall_noted : (k now : ℕ) (ms : List ℕ) → Fall ms → Fall (take k (not_before ms now ∷ ms))
fall_noted zero now ms h = tt
fall_noted (suc k) now [] h = fall_taken now k [] tt
fall_noted (suc k) now (m ∷ ms) h = fall_taken (max m now) k (m ∷ ms) (omega arith, h)

fall_front : (n : ℕ) (ms ns : List ℕ) → FallFrom n (ms ++ ns) → FallFrom n ms
fall_front n [] ns h = tt
fall_front n (m ∷ ms) ns h = (h.0, fall_front m ms ns h.1)

-- ---- which are old

abbrev pub AreOld : Age → List ℕ → Type 0
AreOld age [] = Unit {0}
AreOld age (m ∷ ms) = (m + age.longest ≤ age.now) × AreOld age ms

abbrev pub AreYoung : Age → List ℕ → Type 0
AreYoung age [] = Unit {0}
AreYoung age (m ∷ ms) = (leb (m + age.longest) age.now ≡ false) × AreYoung age ms

-- as far as the old ones have gone
pub record Goes (age : Age) (before now : List ℕ) : Type 0 where
  pub gone : List ℕ
  pub is : before ≡ now ++ gone
  pub old : AreOld age gone

pub goes_first : (age : Age) (ms : List ℕ) → Goes age ms ms
goes_first age ms = record { gone = []; is = sym (append-nil ms); old = tt }

-- the last of a list
record Ends (ms : List ℕ) (m : ℕ) : Type 0 where
  front : List ℕ
  is : ms ≡ front ++ m ∷ []
  taken : take (length ms - 1) ms ≡ front

last_more : (x y : ℕ) (ms : List ℕ) → last_item (x ∷ y ∷ ms) ≡ last_item (y ∷ ms)
last_more x y ms =
    let a : suc (suc (length ms)) - 1 ≡ suc (length ms) = omega arith in
    let b : length ms ≡ suc (length ms) - 1 = omega arith in
    ap (slice_get (x ∷ y ∷ ms)) a ∙ ap (slice_get (y ∷ ms)) b

ends : (ms : List ℕ) (m : ℕ) → last_item ms ≡ Some m → Ends ms m
ends [] m e = absurd cc
ends (x ∷ []) m e = let f : x ≡ m = cc in record { front = []; is = ap (λ y. y ∷ []) f; taken = refl }
ends (x ∷ y ∷ ms) m e =
    let r = ends (y ∷ ms) m (sym (last_more x y ms) ∙ e) in
    let a : suc (suc (length ms)) - 1 ≡ suc (length ms) = omega arith in
    let b : length ms ≡ suc (length ms) - 1 = omega arith in
    record {
      front = x ∷ r.front;
      is = ap (λ l. x ∷ l) r.is;
      taken = ap (λ n. take n (x ∷ y ∷ ms)) a ∙ ap (λ l. x ∷ l) (ap (λ n. take n (y ∷ ms)) b ∙ r.taken);
    }

pub goes_on : (age : Age) (before now : List ℕ) (m : ℕ) → last_item now ≡ Some m → leb (m + age.longest) age.now ≡ true → Goes age before now
    → Goes age before (take (length now - 1) now)
goes_on age before now m e past h =
    let r = ends now m e in
    record {
      gone = m ∷ h.gone;
      is = h.is ∙ (ap (λ l. l ++ h.gone) r.is ∙ (append_assoc r.front (m ∷ []) h.gone ∙ ap (λ l. l ++ m ∷ h.gone) (sym r.taken)));
      old = (leb-true (m + age.longest) age.now past, h.old);
    }

none_old : (age : Age) (ms : List ℕ) → AreOld age ms → finishings_at (Some age.longest) age.now ms ≡ []
none_old age [] h = refl
none_old age (m ∷ ms) h =
    ap (λ b. cond (not b) (m ∷ finishings_at (Some age.longest) age.now ms) (finishings_at (Some age.longest) age.now ms)) (le-leb (m + age.longest) age.now h.0)
    ∙ none_old age ms h.1

all_young : (age : Age) (ms : List ℕ) → AreYoung age ms → finishings_at (Some age.longest) age.now ms ≡ ms
all_young age [] h = refl
all_young age (m ∷ ms) h =
    ap (λ b. cond (not b) (m ∷ finishings_at (Some age.longest) age.now ms) (finishings_at (Some age.longest) age.now ms)) h.0
    ∙ ap (λ l. m ∷ l) (all_young age ms h.1)

parts : (age : Age) (ys os : List ℕ) → AreYoung age ys → AreOld age os → finishings_at (Some age.longest) age.now (ys ++ os) ≡ ys
parts age [] os h g = none_old age os g
parts age (m ∷ ys) os h g =
    ap (λ b. cond (not b) (m ∷ finishings_at (Some age.longest) age.now (ys ++ os)) (finishings_at (Some age.longest) age.now (ys ++ os))) h.0
    ∙ ap (λ l. m ∷ l) (parts age ys os h.1 g)

-- where the last is young, all are
young_front : (age : Age) (n m : ℕ) (fs : List ℕ) → leb (m + age.longest) age.now ≡ false → FallFrom n (fs ++ m ∷ []) → AreYoung age (fs ++ m ∷ []) × (m ≤ n)
young_front age n m [] e h = ((e, tt), h.0)
young_front age n m (f ∷ fs) e h =
    let r = young_front age f m fs e h.1 in
    ((later (leb (f + age.longest) age.now) refl r.1, r.0), (let a = h.0 in let b = r.1 in omega arith))
  where
    later : (b : Bool) → leb (f + age.longest) age.now ≡ b → m ≤ f → b ≡ false
    later false g l = refl
    later true g l =
        let x = leb-true (f + age.longest) age.now g in
        let y = leb-false (m + age.longest) age.now e in
        absurd (omega arith)

first_most : (ms : List ℕ) → Fall ms → (n : ℕ) × FallFrom n ms
first_most [] h = (0, tt)
first_most (m ∷ ms) h = (m, (omega arith, h))

fall_whole : (ms ns : List ℕ) → Fall (ms ++ ns) → Fall ms
fall_whole [] ns h = tt
fall_whole (m ∷ ms) ns h = fall_front m ms ns h

-- the walk ends at a young one
pub goes_young : (age : Age) (before now : List ℕ) (m : ℕ) → Fall before → last_item now ≡ Some m → leb (m + age.longest) age.now ≡ false → Goes age before now
    → now ≡ finishings_at (Some age.longest) age.now before
goes_young age before now m fall e young h =
    let r = ends now m e in
    let f = first_most now (fall_whole now h.gone (subst Fall h.is fall)) in
    let y = young_front age f.0 m r.front young (subst (FallFrom f.0) r.is f.1) in
    sym (ap (finishings_at (Some age.longest) age.now) h.is ∙ parts age now h.gone (subst (AreYoung age) (sym r.is) y.0) h.old)

-- or where none is left
pub goes_empty : (age : Age) (before now : List ℕ) → last_item now ≡ None → Goes age before now → now ≡ finishings_at (Some age.longest) age.now before
goes_empty age before [] e h = sym (ap (finishings_at (Some age.longest) age.now) h.is ∙ none_old age h.gone h.old)
goes_empty age before (x ∷ now) e h = absurd (some x now e)
  where
    some : (y : ℕ) (ys : List ℕ) → last_item (y ∷ ys) ≡ None → ⊥
    some y [] f = absurd cc
    some y (z ∷ ys) f = some z ys (sym (last_more y z ys) ∙ f)

-- ---- the keys of those that are not forgotten are the first ones

fall_kept : (t : ℕ → Bool) (n : ℕ) (ms : List ℕ) → FallFrom n ms → FallFrom n (filter t ms)
fall_kept t n [] h = tt
fall_kept t n (m ∷ ms) h = go (t m) (fall_kept t m ms h.1)
  where
    go : (b : Bool) → FallFrom m (filter t ms) → FallFrom n (cond b (m ∷ filter t ms) (filter t ms))
    go true r = (h.0, r)
    go false r = fall_lower n m (filter t ms) h.0 r

pub fall_forgotten : (longest : Option ℕ) (now : ℕ) (ms : List ℕ) → Fall ms → Fall (finishings_at longest now ms)
fall_forgotten longest now [] h = tt
fall_forgotten longest now (m ∷ ms) h = go (not (is_forgotten longest now m)) (fall_kept (λ x. not (is_forgotten longest now x)) m ms h)
  where
    go : (b : Bool) → FallFrom m (finishings_at longest now ms) → Fall (cond b (m ∷ finishings_at longest now ms) (finishings_at longest now ms))
    go true r = r
    go false r = fall_tail m (finishings_at longest now ms) r

later_forgotten : (longest now n : ℕ) (ks : List Key) (ms : List ℕ) → leb (n + longest) now ≡ true → FallFrom n ms
    → (keys_at (Some longest) now ks ms ≡ []) × (finishings_at (Some longest) now ms ≡ [])
later_forgotten longest now n [] [] e h = (refl, refl)
later_forgotten longest now n (k ∷ ks) [] e h = (refl, refl)
later_forgotten longest now n [] (m ∷ ms) e h =
    let l = leb-true (n + longest) now e in
    let f : leb (m + longest) now ≡ true = let a = h.0 in le-leb (m + longest) now (omega arith) in
    (refl, ap (λ b. cond (not b) (m ∷ finishings_at (Some longest) now ms) (finishings_at (Some longest) now ms)) f ∙ (later_forgotten longest now m [] ms f h.1).1)
later_forgotten longest now n (k ∷ ks) (m ∷ ms) e h =
    let l = leb-true (n + longest) now e in
    let f : leb (m + longest) now ≡ true = let a = h.0 in le-leb (m + longest) now (omega arith) in
    let r = later_forgotten longest now m ks ms f h.1 in (
      ap (λ b. cond b (keys_at (Some longest) now ks ms) (k ∷ keys_at (Some longest) now ks ms)) f ∙ r.0,
      ap (λ b. cond (not b) (m ∷ finishings_at (Some longest) now ms) (finishings_at (Some longest) now ms)) f ∙ r.1,
    )

-- as many of the last keys are kept as finishings
pub keys_kept : (longest now : ℕ) (ks : List Key) (ms : List ℕ) → length ms ≡ length ks → Fall ms
    → take (length (finishings_at (Some longest) now ms)) ks ≡ keys_at (Some longest) now ks ms
keys_kept longest now [] [] e h = refl
keys_kept longest now [] (m ∷ ms) e h = absurd (omega (arith, e))
keys_kept longest now (k ∷ ks) [] e h = refl
keys_kept longest now (k ∷ ks) (m ∷ ms) e h = go (leb (m + longest) now) refl (keys_kept longest now ks ms (omega (arith, e)) (fall_tail m ms h))
  where
    go : (b : Bool) → leb (m + longest) now ≡ b → take (length (finishings_at (Some longest) now ms)) ks ≡ keys_at (Some longest) now ks ms
        → take (length (cond (not b) (m ∷ finishings_at (Some longest) now ms) (finishings_at (Some longest) now ms))) (k ∷ ks)
        ≡ cond b (keys_at (Some longest) now ks ms) (k ∷ keys_at (Some longest) now ks ms)
    go false f ih = ap (λ l. k ∷ l) ih
    go true f ih =
        let r = later_forgotten longest now m ks ms f h in
        ap (λ l. take (length l) (k ∷ ks)) r.1 ∙ sym r.0

pub keys_as_many : (longest now : ℕ) (ks : List Key) (ms : List ℕ) → length ms ≡ length ks
    → length (finishings_at (Some longest) now ms) ≡ length (keys_at (Some longest) now ks ms)
keys_as_many longest now [] [] e = refl
keys_as_many longest now [] (m ∷ ms) e = absurd (omega (arith, e))
keys_as_many longest now (k ∷ ks) [] e = absurd (omega (arith, e))
keys_as_many longest now (k ∷ ks) (m ∷ ms) e = go (leb (m + longest) now) (keys_as_many longest now ks ms (omega (arith, e)))
  where
    go : (b : Bool) → length (finishings_at (Some longest) now ms) ≡ length (keys_at (Some longest) now ks ms)
        → length (cond (not b) (m ∷ finishings_at (Some longest) now ms) (finishings_at (Some longest) now ms))
        ≡ length (cond b (keys_at (Some longest) now ks ms) (k ∷ keys_at (Some longest) now ks ms))
    go false ih = ap suc ih
    go true ih = ih

-- none is forgotten where no age is told
pub keys_always : (now : ℕ) (ks : List Key) (ms : List ℕ) → length ms ≡ length ks → keys_at None now ks ms ≡ ks
keys_always now [] ms e = refl
keys_always now (k ∷ ks) [] e = absurd (omega (arith, e))
keys_always now (k ∷ ks) (m ∷ ms) e = ap (λ l. k ∷ l) (keys_always now ks ms (omega (arith, e)))

pub finishings_always : (now : ℕ) (ms : List ℕ) → finishings_at None now ms ≡ ms
finishings_always now [] = refl
finishings_always now (m ∷ ms) = ap (λ l. m ∷ l) (finishings_always now ms)

pub keys_by : (longest : Option ℕ) (now : ℕ) (ks : List Key) (ms : List ℕ) → length ms ≡ length ks → Fall ms
    → take (length (finishings_at longest now ms)) ks ≡ keys_at longest now ks ms
keys_by (Some n) now ks ms e h = keys_kept n now ks ms e h
keys_by None now ks ms e h =
    take_all (length (finishings_at None now ms)) ks (let a = ap (λ (l : List ℕ). length l) (finishings_always now ms) in omega (arith, a, e))
    ∙ sym (keys_always now ks ms e)

pub many_by : (longest : Option ℕ) (now : ℕ) (ks : List Key) (ms : List ℕ) → length ms ≡ length ks
    → length (finishings_at longest now ms) ≡ length (keys_at longest now ks ms)
many_by (Some n) now ks ms e = keys_as_many n now ks ms e
many_by None now ks ms e =
    ap (λ (l : List ℕ). length l) (finishings_always now ms) ∙ (e ∙ ap (λ (l : List Key). length l) (sym (keys_always now ks ms e)))
