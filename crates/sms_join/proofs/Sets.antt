-- Laws of sets of pieces.
use Rattle.std.proofs.Common.{◌≡◌, ℕ, zero, suc, ◌<◌, ◌≤◌, Bool, true, false, cond, eqb, List, [], ◌∷◌, ◌++◌, take, refl, ap, ◌∙◌, arith, ◌≢◌}
use Rattle.std.proofs.lemmas.Bool.{eqb-true, eqb-false, and_parts, or_parts}
use Rattle.sms_join.specs.declared.key.Key.{Key}
use Rattle.sms_join.specs.Key.{same_key}
use Rattle.sms_join.specs.Piece.{Piece}
use Rattle.sms_join.specs.Joiner.Sets.{has, has_all, units_at, units_upto, without}
use Rattle.sms_join.specs.Joiner.{is_among}
use Rattle.sms_join.proofs.SameKeys.{same_key_true}

-- dropping a set leaves the others
pub has-without : (ps : List Piece) (k l : Key) (n : ℕ) → same_key k l ≡ false → has (without ps k) l n ≡ has ps l n
has-without [] k l n h = refl
has-without (p ∷ ps) k l n h = go (same_key p.key k) refl (has-without ps k l n h)
  where
    go : (b : Bool) → same_key p.key k ≡ b → has (without ps k) l n ≡ has ps l n
        → has (cond b (without ps k) (p ∷ without ps k)) l n ≡ has (p ∷ ps) l n
    go false e ih = rw ih refl
    go true e ih =
        let f : same_key p.key l ≡ false = rw (same_key_true p.key k e) h in
        rw (f, ih) refl

pub has-without_same : (ps : List Piece) (k : Key) (n : ℕ) → has (without ps k) k n ≡ false
has-without_same [] k n = refl
has-without_same (p ∷ ps) k n = go (same_key p.key k) refl (has-without_same ps k n)
  where
    go : (b : Bool) → same_key p.key k ≡ b → has (without ps k) k n ≡ false
        → has (cond b (without ps k) (p ∷ without ps k)) k n ≡ false
    go true e ih = ih
    go false e ih = rw (e, ih) refl

pub units_at-without : (ps : List Piece) (k l : Key) (n : ℕ) → same_key k l ≡ false
    → units_at (without ps k) l n ≡ units_at ps l n
units_at-without [] k l n h = refl
units_at-without (p ∷ ps) k l n h = go (same_key p.key k) refl (units_at-without ps k l n h)
  where
    go : (b : Bool) → same_key p.key k ≡ b → units_at (without ps k) l n ≡ units_at ps l n
        → units_at (cond b (without ps k) (p ∷ without ps k)) l n ≡ units_at (p ∷ ps) l n
    go false e ih = rw ih refl
    go true e ih =
        let f : same_key p.key l ≡ false = rw (same_key_true p.key k e) h in
        rw (f, ih) refl

-- two lists with the same pieces of a set
pub has_all-same : (ps qs : List Piece) (k : Key) (n : ℕ) → ((i : ℕ) → has ps k i ≡ has qs k i) → has_all ps k n ≡ has_all qs k n
has_all-same ps qs k zero h = refl
has_all-same ps qs k (suc n) h = rw (h (suc n), has_all-same ps qs k n h) refl

pub units_upto-same : (ps qs : List Piece) (k : Key) (n : ℕ) → ((i : ℕ) → has ps k i ≡ true → units_at ps k i ≡ units_at qs k i)
    → has_all ps k n ≡ true → units_upto ps k n ≡ units_upto qs k n
units_upto-same ps qs k zero h t = refl
units_upto-same ps qs k (suc n) h t =
    let p = and_parts (has ps k (suc n)) (has_all ps k n) t in
    ap (λ l. l ++ units_at ps k (suc n) ∷ []) (units_upto-same ps qs k n h p.1)
    ∙ ap (λ u. units_upto qs k n ++ u ∷ []) (h (suc n) p.0)

-- one of the pieces
pub has-of_all : (ps : List Piece) (k : Key) (n i : ℕ) → has_all ps k n ≡ true → 0 < i → i ≤ n → has ps k i ≡ true
has-of_all ps k zero i h a b = absurd (omega arith)
has-of_all ps k (suc n) i h a b =
    let p = and_parts (has ps k (suc n)) (has_all ps k n) h in
    go (eqb i (suc n)) refl p.0 (has-of_all ps k n i p.1 a)
  where
    go : (c : Bool) → eqb i (suc n) ≡ c → has ps k (suc n) ≡ true → (i ≤ n → has ps k i ≡ true) → has ps k i ≡ true
    go true e p q = rw (eqb-true i (suc n) e) p
    go false e p q = let ne = eqb-false i (suc n) e in let ne' : i ≢ suc n = ne in q (omega arith)

pub is_among-take : (n : ℕ) (ks : List Key) (k : Key) → is_among ks k ≡ false → is_among (take n ks) k ≡ false
is_among-take zero ks k h = refl
is_among-take (suc n) [] k h = refl
is_among-take (suc n) (x ∷ ks) k h =
    let p = or_parts (same_key x k) (is_among ks k) h in
    rw (p.0, is_among-take n ks k p.1) refl
