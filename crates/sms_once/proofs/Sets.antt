-- Laws of sets of pieces.
use Rattle.std.proofs.Common.{◌≡◌, ℕ, zero, suc, Bool, true, false, cond, List, [], ◌∷◌, ◌++◌, take, refl, sym, ◌∙◌, subst}
use Rattle.std.proofs.lemmas.Bool.{or_parts, or_right}
use Rattle.sms_join.specs.declared.key.Key.{Key}
use Rattle.sms_join.specs.Key.{same_key}
use Rattle.sms_join.specs.Piece.{Piece}
use Rattle.sms_join.specs.Joiner.Sets.{has, has_all, is_open, units_at, without}
use Rattle.sms_join.specs.Joiner.{is_among}
use Rattle.sms_once.proofs.Keys.{same_key_refl, same_key_true}

-- dropping a set leaves the others
pub has-without : (ps : List Piece) (k l : Key) (n : ℕ) → same_key k l ≡ false → has (without ps k) l n ≡ has ps l n
has-without [] k l n h = refl
has-without (p ∷ ps) k l n h = go (same_key p.key k) refl (has-without ps k l n h)
  where
    go : (b : Bool) → same_key p.key k ≡ b → has (without ps k) l n ≡ has ps l n
        → has (cond b (without ps k) (p ∷ without ps k)) l n ≡ has (p ∷ ps) l n
    go false e ih = rw ih refl
    go true e ih =
        let f : same_key p.key l ≡ false = rw (same_key_true p.key k e) h in
        rw (f, ih) refl

pub units_at-without : (ps : List Piece) (k l : Key) (n : ℕ) → same_key k l ≡ false
    → units_at (without ps k) l n ≡ units_at ps l n
units_at-without [] k l n h = refl
units_at-without (p ∷ ps) k l n h = go (same_key p.key k) refl (units_at-without ps k l n h)
  where
    go : (b : Bool) → same_key p.key k ≡ b → units_at (without ps k) l n ≡ units_at ps l n
        → units_at (cond b (without ps k) (p ∷ without ps k)) l n ≡ units_at (p ∷ ps) l n
    go false e ih = rw ih refl
    go true e ih =
        let f : same_key p.key l ≡ false = rw (same_key_true p.key k e) h in
        rw (f, ih) refl

-- two lists with the same pieces of a set
pub has_all-same : (ps qs : List Piece) (k : Key) (n : ℕ) → ((i : ℕ) → has ps k i ≡ has qs k i) → has_all ps k n ≡ has_all qs k n
has_all-same ps qs k zero h = refl
has_all-same ps qs k (suc n) h = rw (h (suc n), has_all-same ps qs k n h) refl

-- the key is not among the first keys either
pub among_taken : (n : ℕ) (ks : List Key) (k : Key) → is_among ks k ≡ false → is_among (take n ks) k ≡ false
among_taken zero ks k h = refl
among_taken (suc n) [] k h = refl
among_taken (suc n) (x ∷ ks) k h =
    let p = or_parts (same_key x k) (is_among ks k) h in
    rw (p.0, among_taken n ks k p.1) refl

pub open-without : (ps : List Piece) (k l : Key) → same_key k l ≡ false → is_open (without ps k) l ≡ is_open ps l
open-without [] k l h = refl
open-without (p ∷ ps) k l h = go (same_key p.key k) refl (open-without ps k l h)
  where
    go : (b : Bool) → same_key p.key k ≡ b → is_open (without ps k) l ≡ is_open ps l
        → is_open (cond b (without ps k) (p ∷ without ps k)) l ≡ is_open (p ∷ ps) l
    go false e ih = rw ih refl
    go true e ih =
        let f : same_key p.key l ≡ false = rw (same_key_true p.key k e) h in
        rw (f, ih) refl

pub open-without_same : (ps : List Piece) (k : Key) → is_open (without ps k) k ≡ false
open-without_same [] k = refl
open-without_same (p ∷ ps) k = go (same_key p.key k) refl (open-without_same ps k)
  where
    go : (b : Bool) → same_key p.key k ≡ b → is_open (without ps k) k ≡ false
        → is_open (cond b (without ps k) (p ∷ without ps k)) k ≡ false
    go true e ih = ih
    go false e ih = rw (e, ih) refl

pub open_before : (ps : List Piece) (k l : Key) → is_open (without ps k) l ≡ true → is_open ps l ≡ true
open_before ps k l t = go (same_key k l) refl
  where
    go : (b : Bool) → same_key k l ≡ b → is_open ps l ≡ true
    go false e = sym (open-without ps k l e) ∙ t
    go true e =
        let f : is_open (without ps k) l ≡ false = subst (λ (m : Key). is_open (without ps k) m ≡ false) (same_key_true k l e) (open-without_same ps k) in
        let z : true ≡ false = sym t ∙ f in cc

pub has-closed : (ps : List Piece) (k : Key) (n : ℕ) → is_open ps k ≡ false → has ps k n ≡ false
has-closed [] k n h = refl
has-closed (p ∷ ps) k n h =
    let q = or_parts (same_key p.key k) (is_open ps k) h in
    rw (q.0, has-closed ps k n q.1) refl

pub among_mid : (ks : List Key) (k : Key) (ls : List Key) → is_among (ks ++ k ∷ ls) k ≡ true
among_mid [] k ls = rw (same_key_refl k) refl
among_mid (x ∷ ks) k ls = or_right (same_key x k) (is_among (ks ++ k ∷ ls) k) (among_mid ks k ls)

pub among_both : (ks ls : List Key) (k : Key) → is_among ks k ≡ false → is_among ls k ≡ false → is_among (ks ++ ls) k ≡ false
among_both [] ls k e f = f
among_both (x ∷ ks) ls k e f =
    let q = or_parts (same_key x k) (is_among ks k) e in
    rw (q.0, among_both ks ls k q.1 f) refl
