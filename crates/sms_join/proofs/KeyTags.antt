-- The tags of keys in a row.
use Rattle.std.proofs.Common.{◌≡◌, ℕ, zero, suc, ◌+◌, ◌*◌, ◌%◌, ◌^◌, ◌≤◌, Bool, true, false, cond, not, ◌||◌, eqb, List, [], ◌∷◌, map, take, length, replicate, refl, sym, ap, ◌∙◌, subst, arith, w16}
use Rattle.std.proofs.lemmas.Bool.{eqb-true, eqb-false, eq-eqb, ne_eqb}
use Rattle.std.proofs.lemmas.Simd.{bitmask_splat}
use Rattle.std.specs.List.{list_any}
use lib.Lanes.{zip2, mask_l, top}
use Rattle.sms_join.specs.declared.key.Key.{Key}
use Rattle.sms_join.specs.Key.{same_key}
use Rattle.sms_join.specs.Joiner.{is_among}
use Rattle.sms_join.specs.Inside.KeyTags.{tag_of, HaveTags}
use Rattle.sms_join.proofs.SameKeys.{same_key_true}

-- ---- the tags, compared at once

abbrev is : ℕ → ℕ → ℕ
is a b = cond (eqb a b) 65535 0

some_bit : (ts : List ℕ) (t : ℕ) → not (eqb (mask_l (map (λ x. eqb x t) ts)) 0) ≡ list_any (λ own. eqb own t) ts
some_bit [] t = refl
some_bit (x ∷ xs) t = go (eqb x t) (mask_l (map (λ x. eqb x t) xs)) (list_any (λ own. eqb own t) xs) (some_bit xs t)
  where
    go : (b : Bool) (m : ℕ) (a : Bool) → not (eqb m 0) ≡ a → not (eqb (cond b 1 0 + 2 * m) 0) ≡ (b || a)
    go true m a h = ap (λ n. not n) (ne_eqb (1 + 2 * m) 0 (λ z. omega (arith, z)))
    go false m a h = ap (λ n. not n) (twice (eqb m 0) refl) ∙ h
      where
        twice : (b : Bool) → eqb m 0 ≡ b → eqb (0 + 2 * m) 0 ≡ b
        twice true e = let z = eqb-true m 0 e in eq-eqb _ _ (omega arith)
        twice false e = ne_eqb _ _ (λ z. eqb-false m 0 e (omega arith))

pub tag_found : (ts : List ℕ) (t : ℕ) → length ts ≡ 32
    → not (eqb (mask_l (map (top 15) (zip2 is ts (replicate 32 t))) % 2 ^ 64) 0) ≡ list_any (λ own. eqb own t) ts
tag_found ts t long = ap (λ n. not (eqb n 0)) (bitmask_splat w16 eqb ts 32 t long (omega arith)) ∙ some_bit ts t

-- ---- the keys that have them

pub have_fewer : (ks : List Key) (ts : List ℕ) (m n : ℕ) → HaveTags ks ts → HaveTags (take m ks) (take n ts)
have_fewer ks ts zero n h = tt
have_fewer [] ts (suc m) n h = tt
have_fewer (k ∷ ks) ts (suc m) zero h = tt
have_fewer (k ∷ ks) [] (suc m) (suc n) h = tt
have_fewer (k ∷ ks) (t ∷ ts) (suc m) (suc n) h = (h.0, have_fewer ks ts m n h.1)

-- after a key more
pub have_pushed : (ks : List Key) (ts us : List ℕ) (k : Key) (t m : ℕ) → t ≡ tag_of k → HaveTags ks ts → us ≡ take 31 ts
    → HaveTags (take m (k ∷ ks)) (t ∷ us)
have_pushed ks ts us k t m own h rest =
    subst (λ (vs : List ℕ). HaveTags (take m (k ∷ ks)) (t ∷ vs)) (sym rest) (have_fewer (k ∷ ks) (t ∷ ts) m 32 (own, h))

-- where each key has a tag, one without its tag is not there
pub none_among : (ks : List Key) (ts : List ℕ) (k : Key) → HaveTags ks ts → length ks ≤ length ts → list_any (λ own. eqb own (tag_of k)) ts ≡ false
    → is_among ks k ≡ false
none_among [] ts k h few none = refl
none_among (x ∷ ks) [] k h few none = absurd (omega arith)
none_among (x ∷ ks) (t ∷ ts) k h few none = go (same_key x k) refl (eqb t (tag_of k)) refl none (none_among ks ts k h.1 (omega arith))
  where
    go : (b : Bool) → same_key x k ≡ b → (a : Bool) → eqb t (tag_of k) ≡ a → (a || list_any (λ own. eqb own (tag_of k)) ts) ≡ false
        → (list_any (λ own. eqb own (tag_of k)) ts ≡ false → is_among ks k ≡ false) → (b || is_among ks k) ≡ false
    go b e true f none rest = cc
    go true e false f none rest =
        let same : eqb t (tag_of k) ≡ true = eq-eqb _ _ (h.0 ∙ ap tag_of (same_key_true x k e)) in cc
    go false e false f none rest = rest none
