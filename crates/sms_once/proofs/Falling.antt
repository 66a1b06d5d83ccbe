-- The moments of finishings, of which none is later than the one ahead of it, and the keys of those
-- that are not forgotten.
use Rattle.std.proofs.Common.{◌≡◌, ℕ, zero, suc, ◌+◌, ◌≤◌, Bool, true, false, cond, not, leb, max, List, [], ◌∷◌, take, length, Option, None, Some, refl, sym, ap, ◌∙◌, arith}
use Rattle.std.proofs.lemmas.Bool.{leb-true, le-leb}
use Rattle.std.proofs.lemmas.List.{take_all}
use Rattle.std.specs.List.{filter}
use Rattle.sms_join.specs.declared.key.Key.{Key}
use Rattle.sms_join.specs.Gateway.Finishings.{Fall, FallFrom, finishings_at, is_forgotten, keys_at, not_before}

fall_lower : (n m : ℕ) (ms : List ℕ) → m ≤ n → FallFrom m ms → FallFrom n ms
fall_lower n m [] l h = tt
fall_lower n m (x ∷ ms) l h = (let a = h.0 in omega arith, h.1)

pub fall_tail : (m : ℕ) (ms : List ℕ) → FallFrom m ms → Fall ms
fall_tail m [] h = tt
fall_tail m (x ∷ ms) h = h.1

fall_taken : (n k : ℕ) (ms : List ℕ) → FallFrom n ms → FallFrom n (take k ms)
fall_taken n zero ms h = tt
fall_taken n (suc k) [] h = tt
fall_taken n (suc k) (m ∷ ms) h = (h.0, fall_taken m k ms h.1)

pub fall_noted : (k now : ℕ) (ms : List ℕ) → Fall ms → Fall (take k (not_before ms now ∷ ms))
fall_noted zero now ms h = tt
fall_noted (suc k) now [] h = fall_taken now k [] tt
fall_noted (suc k) now (m ∷ ms) h = fall_taken (max m now) k (m ∷ ms) (omega arith, h)

fall_kept : (t : ℕ → Bool) (n : ℕ) (ms : List ℕ) → FallFrom n ms → FallFrom n (filter t ms)
fall_kept t n [] h = tt
fall_kept t n (m ∷ ms) h = go (t m) (fall_kept t m ms h.1)
  where
    go : (b : Bool) → FallFrom m (filter t ms) → FallFrom n (cond b (m ∷ filter t ms) (filter t ms))
    go true r = (h.0, r)
    go false r = fall_lower n m (filter t ms) h.0 r

pub fall_forgotten : (longest : Option ℕ) (now : ℕ) (ms : List ℕ) → Fall ms → Fall (finishings_at longest now ms)
fall_forgotten longest now [] h = tt
fall_forgotten longest now (m ∷ ms) h = go (not (is_forgotten longest now m)) (fall_kept (λ x. not (is_forgotten longest now x)) m ms h)
  where
    go : (b : Bool) → FallFrom m (finishings_at longest now ms) → Fall (cond b (m ∷ finishings_at longest now ms) (finishings_at longest now ms))
    go true r = r
    go false r = fall_tail m (finishings_at longest now ms) r

-- ---- the keys of those that are not forgotten are the first ones

later_forgotten : (longest now n : ℕ) (ks : List Key) (ms : List ℕ) → leb (n + longest) now ≡ true → FallFrom n ms
    → (keys_at (Some longest) now ks ms ≡ []) × (finishings_at (Some longest) now ms ≡ [])
later_forgotten longest now n [] [] e h = (refl, refl)
later_forgotten longest now n (k ∷ ks) [] e h = (refl, refl)
later_forgotten longest now n [] (m ∷ ms) e h =
    let l = leb-true (n + longest) now e in
    let f : leb (m + longest) now ≡ true = let a = h.0 in le-leb (m + longest) now (omega arith) in
    (refl, ap (λ b. cond (not b) (m ∷ finishings_at (Some longest) now ms) (finishings_at (Some longest) now ms)) f ∙ (later_forgotten longest now m [] ms f h.1).1)
later_forgotten longest now n (k ∷ ks) (m ∷ ms) e h =
    let l = leb-true (n + longest) now e in
    let f : leb (m + longest) now ≡ true = let a = h.0 in le-leb (m + longest) now (omega arith) in
    let r = later_forgotten longest now m ks ms f h.1 in (
      ap (λ b. cond b (keys_at (Some longest) now ks ms) (k ∷ keys_at (Some longest) now ks ms)) f ∙ r.0,
      ap (λ b. cond (not b) (m ∷ finishings_at (Some longest) now ms) (finishings_at (Some longest) now ms)) f ∙ r.1,
    )

-- as many of the last keys are kept as finishings
keys_kept : (longest now : ℕ) (ks : List Key) (ms : List ℕ) → length ms ≡ length ks → Fall ms
    → take (length (finishings_at (Some longest) now ms)) ks ≡ keys_at (Some longest) now ks ms
keys_kept longest now [] [] e h = refl
keys_kept longest now [] (m ∷ ms) e h = absurd (omega (arith, e))
keys_kept longest now (k ∷ ks) [] e h = refl
keys_kept longest now (k ∷ ks) (m ∷ ms) e h = go (leb (m + longest) now) refl (keys_kept longest now ks ms (omega (arith, e)) (fall_tail m ms h))
  where
    go : (b : Bool) → leb (m + longest) now ≡ b → take (length (finishings_at (Some longest) now ms)) ks ≡ keys_at (Some longest) now ks ms
        → take (length (cond (not b) (m ∷ finishings_at (Some longest) now ms) (finishings_at (Some longest) now ms))) (k ∷ ks)
        ≡ cond b (keys_at (Some longest) now ks ms) (k ∷ keys_at (Some longest) now ks ms)
    go false f ih = ap (λ l. k ∷ l) ih
    go true f ih =
        let r = later_forgotten longest now m ks ms f h in
        ap (λ l. take (length l) (k ∷ ks)) r.1 ∙ sym r.0

-- none is forgotten where no age is told
pub keys_always : (now : ℕ) (ks : List Key) (ms : List ℕ) → length ms ≡ length ks → keys_at None now ks ms ≡ ks
keys_always now [] ms e = refl
keys_always now (k ∷ ks) [] e = absurd (omega (arith, e))
keys_always now (k ∷ ks) (m ∷ ms) e = ap (λ l. k ∷ l) (keys_always now ks ms (omega (arith, e)))

pub finishings_always : (now : ℕ) (ms : List ℕ) → finishings_at None now ms ≡ ms
finishings_always now [] = refl
finishings_always now (m ∷ ms) = ap (λ l. m ∷ l) (finishings_always now ms)

pub keys_by : (longest : Option ℕ) (now : ℕ) (ks : List Key) (ms : List ℕ) → length ms ≡ length ks → Fall ms
    → take (length (finishings_at longest now ms)) ks ≡ keys_at longest now ks ms
keys_by (Some n) now ks ms e h = keys_kept n now ks ms e h
keys_by None now ks ms e h =
    take_all (length (finishings_at None now ms)) ks (let a = ap (λ (l : List ℕ). length l) (finishings_always now ms) in omega (arith, a, e))
    ∙ sym (keys_always now ks ms e)

-- one that is forgotten, and those before it

pub forgotten_before : (longest : Option ℕ) (now n m : ℕ) → m ≤ n → is_forgotten longest now n ≡ true → is_forgotten longest now m ≡ true
forgotten_before None now n m l e = absurd cc
forgotten_before (Some longest) now n m l e = let a = leb-true (n + longest) now e in le-leb (m + longest) now (omega arith)

pub all_forgotten : (longest : Option ℕ) (now n : ℕ) (ms : List ℕ) → is_forgotten longest now n ≡ true → FallFrom n ms → finishings_at longest now ms ≡ []
all_forgotten None now n ms e h = absurd cc
all_forgotten (Some longest) now n ms e h = (later_forgotten longest now n [] ms e h).1
