-- What an aging leaves of sets and keys.
use Rattle.std.proofs.Common.{◌≡◌, ℕ, suc, ◌≤◌, Bool, true, false, cond, not, ◌&&◌, ◌||◌, eqb, List, [], ◌∷◌, ◌++◌, length, Option, refl, sym, ap, ◌∙◌, subst, arith}
use Rattle.std.proofs.lemmas.Bool.{false_from_ne_true, or_parts}
use Rattle.sms_join.specs.declared.key.Key.{Key}
use Rattle.sms_join.specs.Key.{same_key}
use Rattle.sms_join.specs.Piece.{Piece}
use Rattle.sms_join.specs.Joiner.Sets.{has, is_open, units_at}
use Rattle.sms_join.specs.Joiner.{is_among}
use Rattle.sms_join.specs.Joiner.Aging.{young}
use Rattle.sms_join.specs.Gateway.Finishings.{finishings_at, is_forgotten, keys_at}
use Rattle.sms_once.proofs.Keys.{same_key_true}

-- a set that is dropped is another one than a set that is not
apart : (old : Key → Bool) (k l : Key) → old k ≡ true → old l ≡ false → same_key k l ≡ false
apart old k l a b = false_from_ne_true _ (λ t.
    let z : old l ≡ true = subst (λ m. old m ≡ true) (same_key_true k l t) a in
    let q : true ≡ false = sym z ∙ b in cc)

apart_back : (old : Key → Bool) (k l : Key) → old k ≡ false → old l ≡ true → same_key k l ≡ false
apart_back old k l a b = false_from_ne_true _ (λ t.
    let z : old l ≡ false = subst (λ m. old m ≡ false) (same_key_true k l t) a in
    let q : true ≡ false = sym b ∙ z in cc)

module _ (old : Key → Bool) (k : Key) where
  pub has-young : (ps : List Piece) (n : ℕ) → old k ≡ false → has (young old ps) k n ≡ has ps k n
  has-young [] n h = refl
  has-young (p ∷ ps) n h = go (old p.key) refl (has-young ps n h)
    where
      go : (b : Bool) → old p.key ≡ b → has (young old ps) k n ≡ has ps k n
          → has (cond b (young old ps) (p ∷ young old ps)) k n ≡ ((same_key p.key k && eqb p.sequence n) || has ps k n)
      go false e ih = ap (λ b. (same_key p.key k && eqb p.sequence n) || b) ih
      go true e ih = rw (apart old p.key k e h) ih

  pub has-gone : (ps : List Piece) (n : ℕ) → old k ≡ true → has (young old ps) k n ≡ false
  has-gone [] n h = refl
  has-gone (p ∷ ps) n h = go (old p.key) refl (has-gone ps n h)
    where
      go : (b : Bool) → old p.key ≡ b → has (young old ps) k n ≡ false → has (cond b (young old ps) (p ∷ young old ps)) k n ≡ false
      go true e ih = ih
      go false e ih = rw (apart_back old p.key k e h, ih) refl

  pub units_at-young : (ps : List Piece) (n : ℕ) → old k ≡ false → units_at (young old ps) k n ≡ units_at ps k n
  units_at-young [] n h = refl
  units_at-young (p ∷ ps) n h = go (old p.key) refl (units_at-young ps n h)
    where
      go : (b : Bool) → old p.key ≡ b → units_at (young old ps) k n ≡ units_at ps k n
          → units_at (cond b (young old ps) (p ∷ young old ps)) k n ≡ cond (same_key p.key k && eqb p.sequence n) p.units (units_at ps k n)
      go false e ih = ap (cond (same_key p.key k && eqb p.sequence n) p.units) ih
      go true e ih = rw (apart old p.key k e h) ih

  pub open-young : (ps : List Piece) → old k ≡ false → is_open (young old ps) k ≡ is_open ps k
  open-young [] h = refl
  open-young (p ∷ ps) h = go (old p.key) refl (open-young ps h)
    where
      go : (b : Bool) → old p.key ≡ b → is_open (young old ps) k ≡ is_open ps k
          → is_open (cond b (young old ps) (p ∷ young old ps)) k ≡ (same_key p.key k || is_open ps k)
      go false e ih = ap (λ b. same_key p.key k || b) ih
      go true e ih = rw (apart old p.key k e h) ih

  pub open-gone : (ps : List Piece) → old k ≡ true → is_open (young old ps) k ≡ false
  open-gone [] h = refl
  open-gone (p ∷ ps) h = go (old p.key) refl (open-gone ps h)
    where
      go : (b : Bool) → old p.key ≡ b → is_open (young old ps) k ≡ false → is_open (cond b (young old ps) (p ∷ young old ps)) k ≡ false
      go true e ih = ih
      go false e ih = rw (apart_back old p.key k e h, ih) refl

pub open_young : (old : Key → Bool) (ps : List Piece) (k : Key) → is_open (young old ps) k ≡ true → is_open ps k ≡ true
open_young old ps k t = go (old k) refl
  where
    go : (b : Bool) → old k ≡ b → is_open ps k ≡ true
    go false e = sym (open-young old k ps e) ∙ t
    go true e = let z : true ≡ false = sym t ∙ open-gone old k ps e in cc

-- a set that is not open before is not open after it
pub closed_aged : (old : Key → Bool) (ps : List Piece) (k : Key) → is_open ps k ≡ false → is_open (young old ps) k ≡ false
closed_aged old ps k h = false_from_ne_true _ (λ t. let o = open_young old ps k t in let z : true ≡ false = sym o ∙ h in cc)

-- ---- keys

module _ (longest : Option ℕ) (now : ℕ) where
  -- a key that is not there before is not there after it
  pub among_aged : (ks : List Key) (ms : List ℕ) (k : Key) → is_among ks k ≡ false → is_among (keys_at longest now ks ms) k ≡ false
  among_aged [] ms k h = refl
  among_aged (x ∷ ks) [] k h = refl
  among_aged (x ∷ ks) (m ∷ ms) k h =
      let q = or_parts (same_key x k) (is_among ks k) h in
      go (is_forgotten longest now m) q.0 (among_aged ks ms k q.1)
    where
      go : (b : Bool) → same_key x k ≡ false → is_among (keys_at longest now ks ms) k ≡ false
          → is_among (cond b (keys_at longest now ks ms) (x ∷ keys_at longest now ks ms)) k ≡ false
      go true e ih = ih
      go false e ih = rw (e, ih) refl

  pub keys_at-append : (ks : List Key) (ms : List ℕ) (ls : List Key) (ns : List ℕ) → length ms ≡ length ks
      → keys_at longest now (ks ++ ls) (ms ++ ns) ≡ keys_at longest now ks ms ++ keys_at longest now ls ns
  keys_at-append [] [] ls ns e = refl
  keys_at-append [] (m ∷ ms) ls ns e = absurd (omega (arith, e))
  keys_at-append (x ∷ ks) [] ls ns e = absurd (omega (arith, e))
  keys_at-append (x ∷ ks) (m ∷ ms) ls ns e = go (is_forgotten longest now m) (keys_at-append ks ms ls ns (omega (arith, e)))
    where
      go : (b : Bool) → keys_at longest now (ks ++ ls) (ms ++ ns) ≡ keys_at longest now ks ms ++ keys_at longest now ls ns
          → cond b (keys_at longest now (ks ++ ls) (ms ++ ns)) (x ∷ keys_at longest now (ks ++ ls) (ms ++ ns))
          ≡ cond b (keys_at longest now ks ms) (x ∷ keys_at longest now ks ms) ++ keys_at longest now ls ns
      go true ih = ih
      go false ih = ap (λ l. x ∷ l) ih

  pub finishings_at-append : (ms ns : List ℕ) → finishings_at longest now (ms ++ ns) ≡ finishings_at longest now ms ++ finishings_at longest now ns
  finishings_at-append [] ns = refl
  finishings_at-append (m ∷ ms) ns = go (not (is_forgotten longest now m)) (finishings_at-append ms ns)
    where
      go : (b : Bool) → finishings_at longest now (ms ++ ns) ≡ finishings_at longest now ms ++ finishings_at longest now ns
          → cond b (m ∷ finishings_at longest now (ms ++ ns)) (finishings_at longest now (ms ++ ns))
          ≡ cond b (m ∷ finishings_at longest now ms) (finishings_at longest now ms) ++ finishings_at longest now ns
      go true ih = ap (λ l. m ∷ l) ih
      go false ih = ih

  -- as many keys stay as moments, and no more than there were
  pub as_many_aged : (ks : List Key) (ms : List ℕ) → length ms ≡ length ks → length (finishings_at longest now ms) ≡ length (keys_at longest now ks ms)
  as_many_aged [] [] e = refl
  as_many_aged [] (m ∷ ms) e = absurd (omega (arith, e))
  as_many_aged (x ∷ ks) [] e = absurd (omega (arith, e))
  as_many_aged (x ∷ ks) (m ∷ ms) e = go (is_forgotten longest now m) (as_many_aged ks ms (omega (arith, e)))
    where
      go : (b : Bool) → length (finishings_at longest now ms) ≡ length (keys_at longest now ks ms)
          → length (cond (not b) (m ∷ finishings_at longest now ms) (finishings_at longest now ms))
          ≡ length (cond b (keys_at longest now ks ms) (x ∷ keys_at longest now ks ms))
      go true ih = ih
      go false ih = ap suc ih

  pub fewer_aged : (ks : List Key) (ms : List ℕ) → length (keys_at longest now ks ms) ≤ length ks
  fewer_aged [] ms = omega arith
  fewer_aged (x ∷ ks) [] = omega arith
  fewer_aged (x ∷ ks) (m ∷ ms) = go (is_forgotten longest now m) (fewer_aged ks ms)
    where
      go : (b : Bool) → length (keys_at longest now ks ms) ≤ length ks
          → length (cond b (keys_at longest now ks ms) (x ∷ keys_at longest now ks ms)) ≤ suc (length ks)
      go true ih = omega arith
      go false ih = omega arith

  -- a key with its moment, around which the others stand
  module _ (ks : List Key) (ms : List ℕ) (k : Key) (m : ℕ) (ls : List Key) (ns : List ℕ) (e : length ms ≡ length ks) where
    pub keys_stay : is_forgotten longest now m ≡ false
        → keys_at longest now (ks ++ k ∷ ls) (ms ++ m ∷ ns) ≡ keys_at longest now ks ms ++ k ∷ keys_at longest now ls ns
    keys_stay f =
        keys_at-append ks ms (k ∷ ls) (m ∷ ns) e
        ∙ ap (λ b. keys_at longest now ks ms ++ cond b (keys_at longest now ls ns) (k ∷ keys_at longest now ls ns)) f

    pub keys_go : is_forgotten longest now m ≡ true
        → keys_at longest now (ks ++ k ∷ ls) (ms ++ m ∷ ns) ≡ keys_at longest now ks ms ++ keys_at longest now ls ns
    keys_go f =
        keys_at-append ks ms (k ∷ ls) (m ∷ ns) e
        ∙ ap (λ b. keys_at longest now ks ms ++ cond b (keys_at longest now ls ns) (k ∷ keys_at longest now ls ns)) f

    pub moments_stay : is_forgotten longest now m ≡ false
        → finishings_at longest now (ms ++ m ∷ ns) ≡ finishings_at longest now ms ++ m ∷ finishings_at longest now ns
    moments_stay f =
        finishings_at-append ms (m ∷ ns)
        ∙ ap (λ b. finishings_at longest now ms ++ cond (not b) (m ∷ finishings_at longest now ns) (finishings_at longest now ns)) f
