-- Where octets stand as they are.
use Rattle.std.proofs.Common.{◌≡◌, ℕ, zero, suc, ◌+◌, ◌-◌, ◌*◌, ◌/◌, ◌%◌, ◌^◌, ◌<◌, ◌≤◌, Bool, true, false, not, ◌||◌, cond, eqb, ltb, List, [], ◌∷◌, ◌++◌, length, drop, map, get_or, replicate, bit_or, refl, sym, ap, ◌∙◌, arith, length-drop}
use Rattle.std.specs.List.{prefix_len}
use Rattle.std.proofs.lemmas.Bool.{eq-eqb, ne_eqb, cond-true, cond-false}
use Rattle.std.proofs.lemmas.List.{take_all, drop_all, drop_more, drop-drop, drop-map, length-map}
use Rattle.std.proofs.lemmas.Nat.{pow-add, pow_pos, shr-shr}
use Rattle.std.proofs.lemmas.List.Folds.{prefix_len-append}
use Rattle.std.proofs.lemmas.List.Sums.{prefix_len-le-length}
use Rattle.std.proofs.lemmas.Simd.{chunk-drop, length-chunk, first_set_mask_l, mask_l-mod, map-map, zip2_splat, zip2_of_maps}
use lib.Lanes.{zip2, mask_l, top, chunk}
use lib.Count.{count_trailing_zeros}
use Rattle.sms_page.specs.Plain.{is_stop}

map_same : {A : Type 0} (f g : ℕ → A) → ((x : ℕ) → f x ≡ g x) → (v : List ℕ) → map f v ≡ map g v
map_same {A} f g same [] = refl
map_same {A} f g same (x ∷ v) = ap (λ (y : A). y ∷ map f v) (same x) ∙ ap (λ (l : List A). g x ∷ l) (map_same f g same v)

-- ---- the mask of a block

abbrev below : ℕ → ℕ → ℕ
below a b = cond (ltb a b) 255 0

abbrev hit : ℕ → ℕ → ℕ
hit a b = cond (eqb a b) 255 0

abbrev either : Bool → Bool → Bool → ℕ
either a b c = bit_or (bit_or (cond a 255 0) (cond b 255 0)) (cond c 255 0)

three : (a b c : Bool) → top 7 (either a b c) ≡ (a || b || c)
three true true true = refl
three true true false = refl
three true false true = refl
three true false false = refl
three false true true = refl
three false true false = refl
three false false true = refl
three false false false = refl

abbrev pub stops_vector : ℕ → ℕ → List ℕ → List Bool
stops_vector n other v = map (top 7) (zip2 bit_or (zip2 bit_or (zip2 below v (replicate n 32)) (zip2 hit v (replicate n 92))) (zip2 hit v (replicate n other)))

pub stops_are : (other n : ℕ) (v : List ℕ) → length v ≡ n → n ≤ 64 → mask_l (stops_vector n other v) % 2 ^ 64 ≡ mask_l (map (is_stop other) v)
stops_are other n v long few =
    let low = zip2_splat below v n 32 long in
    let slash = zip2_splat hit v n 92 long in
    let own = zip2_splat hit v n other long in
    let two = zip2_of_maps bit_or (λ x. below x 32) (λ x. hit x 92) v low slash in
    let all = zip2_of_maps bit_or (λ x. bit_or (below x 32) (hit x 92)) (λ x. hit x other) v two own in
    ap (λ (l : List Bool). mask_l l % 2 ^ 64) (ap (map (top 7)) all ∙ map-map (top 7) (λ x. either (ltb x 32) (eqb x 92) (eqb x other)) v
    ∙ map_same (λ x. top 7 (either (ltb x 32) (eqb x 92) (eqb x other))) (is_stop other) (λ x. three (ltb x 32) (eqb x 92) (eqb x other)) v)
    ∙ mask_l-mod (map (is_stop other) v) 64 (omega (arith, length-map v (is_stop other), long))

-- ---- from a mask to the first octet that is set

bit_none : (b : Bool) (n l m : ℕ) → n ≤ l → cond {A = ℕ} (not b) (1 + n) 0 ≡ 1 + l → (n ≡ l → m ≡ 0) → cond {A = ℕ} b 1 0 + 2 * m ≡ 0
bit_none true n l m few e rest = absurd (omega (arith, e))
bit_none false n l m few e rest = omega (arith, rest (omega (arith, e)))

-- a mask is empty where the whole front is plain
none_set : (p : ℕ → Bool) (v : List ℕ) → prefix_len (λ x. not (p x)) v ≡ length v → mask_l (map p v) ≡ 0
none_set p [] e = refl
none_set p (x ∷ v) e = bit_none (p x) (prefix_len (λ x. not (p x)) v) (length v) (mask_l (map p v)) (prefix_len-le-length (λ x. not (p x)) v) (omega (arith, e)) (none_set p v)

pub empty_mask : (p : ℕ → Bool) (v : List ℕ) → length v ≤ 64 → mask_l (map p v) ≡ 0 → prefix_len (λ x. not (p x)) v ≡ length v
empty_mask p v few e = sym (first_set_mask_l p v (length v) refl few) ∙ cond-true _ _ _ (eq-eqb _ 0 e)

pub first_in_mask : (p : ℕ → Bool) (v : List ℕ) → length v ≤ 64 → (mask_l (map p v) ≡ 0 → ⊥) → prefix_len (λ x. not (p x)) v ≡ count_trailing_zeros 64 (mask_l (map p v))
first_in_mask p v few h = sym (first_set_mask_l p v (length v) refl few) ∙ cond-false _ _ _ (ne_eqb _ 0 h)

-- past a front that is plain
pub past_plain : (q : ℕ → Bool) (xs ys : List ℕ) → prefix_len q xs ≡ length xs → prefix_len q (xs ++ ys) ≡ length xs + prefix_len q ys
past_plain q xs ys e = prefix_len-append q xs ys ∙ cond-true _ _ _ (eq-eqb _ _ e)

-- within a front that isn't
pub within_front : (q : ℕ → Bool) (xs ys : List ℕ) → (prefix_len q xs ≡ length xs → ⊥) → prefix_len q (xs ++ ys) ≡ prefix_len q xs
within_front q xs ys h = prefix_len-append q xs ys ∙ cond-false _ _ _ (ne_eqb _ _ h)

module _ (p : ℕ → Bool) (octets : List ℕ) (at n : ℕ) (small : n ≤ 64) where
  -- a whole block is plain
  pub block_plain : at + n ≤ length octets → mask_l (map p (chunk at n octets)) ≡ 0
      → prefix_len (λ x. not (p x)) (drop at octets) ≡ n + prefix_len (λ x. not (p x)) (drop (at + n) octets)
  block_plain within e =
      let long = length-chunk at n octets within in
      ap (prefix_len (λ x. not (p x))) (chunk-drop at n octets)
      ∙ past_plain (λ x. not (p x)) (chunk at n octets) (drop (at + n) octets) (empty_mask p (chunk at n octets) (omega (arith, long)) e)
      ∙ ap (λ (k : ℕ). k + prefix_len (λ x. not (p x)) (drop (at + n) octets)) long

  pub block_stops : at + n ≤ length octets → (mask_l (map p (chunk at n octets)) ≡ 0 → ⊥)
      → prefix_len (λ x. not (p x)) (drop at octets) ≡ count_trailing_zeros 64 (mask_l (map p (chunk at n octets)))
  block_stops within h =
      let long = length-chunk at n octets within in
      ap (prefix_len (λ x. not (p x))) (chunk-drop at n octets)
      ∙ within_front (λ x. not (p x)) (chunk at n octets) (drop (at + n) octets) (λ e. h (none_set p (chunk at n octets) e))
      ∙ first_in_mask p (chunk at n octets) (omega (arith, long)) h

pub end_within : (q : ℕ → Bool) (octets : List ℕ) (at : ℕ) → at ≤ length octets → at + prefix_len q (drop at octets) ≤ length octets
end_within q octets at h = omega (arith, prefix_len-le-length q (drop at octets), length-drop at octets)

-- a mask without its lowest bits
half_bit : (b : Bool) (m : ℕ) → (cond {A = ℕ} b 1 0 + 2 * m) / 2 ≡ m
half_bit true m = omega arith
half_bit false m = omega arith

zero_over : (n : ℕ) → 0 < n → 0 / n ≡ 0
zero_over n h = grind arith

one_more : (n : ℕ) → 1 + n ≡ suc n
one_more n = omega arith

mask_drop : (ms : List Bool) (k : ℕ) → mask_l ms / 2 ^ k ≡ mask_l (drop k ms)
mask_drop ms zero = omega arith
mask_drop [] (suc k) = zero_over (2 ^ suc k) (pow_pos (suc k))
mask_drop (b ∷ ms) (suc k) =
    let one : 2 ^ suc k ≡ 2 * 2 ^ k = let e : suc k ≡ 1 + k = omega arith in ap (λ (n : ℕ). 2 ^ n) e ∙ pow-add 2 1 k in
    let halves : mask_l (b ∷ ms) / (2 * 2 ^ k) ≡ mask_l (b ∷ ms) / 2 / 2 ^ k = sym (shr-shr (mask_l (b ∷ ms)) 1 k ∙ ap (λ (n : ℕ). mask_l (b ∷ ms) / n) (pow-add 2 1 k)) in
    ap (λ (n : ℕ). mask_l (b ∷ ms) / n) one ∙ halves ∙ ap (λ (n : ℕ). n / 2 ^ k) (half_bit b (mask_l ms)) ∙ mask_drop ms k

-- the last block of a text, without what stands before a place
pub last_mask : (p : ℕ → Bool) (octets : List ℕ) (at n : ℕ) → n ≤ length octets → length octets - n ≤ at
    → mask_l (map p (chunk (length octets - n) n octets)) / 2 ^ (at - (length octets - n)) ≡ mask_l (map p (drop at octets))
last_mask p octets at n long within =
    let start = length octets - n in
    let k = at - start in
    let back : start + k ≡ at = omega arith in
    mask_drop (map p (chunk start n octets)) k ∙ ap mask_l (drop-map p k (chunk start n octets)
    ∙ ap (λ (l : List ℕ). map p (drop k l)) (take_all n (drop start octets) (omega (arith, length-drop start octets)))
    ∙ ap (map p) (drop-drop k start octets ∙ ap (λ (j : ℕ). drop j octets) back))

-- one octet more is plain
pub one_plain : (q : ℕ → Bool) (octets : List ℕ) (at : ℕ) → at < length octets → q (get_or octets at 0) ≡ true → at + prefix_len q (drop at octets) ≡ at + 1 + prefix_len q (drop (at + 1) octets)
one_plain q octets at more plain =
    let step = ap (prefix_len q) (drop_more octets at 0 more) ∙ cond-true (q (get_or octets at 0)) _ _ plain in
    omega (arith, step)

pub none_plain : (q : ℕ → Bool) (octets : List ℕ) (at : ℕ) → at < length octets → q (get_or octets at 0) ≡ false → at ≡ at + prefix_len q (drop at octets)
none_plain q octets at more stop =
    let step = ap (prefix_len q) (drop_more octets at 0 more) ∙ cond-false (q (get_or octets at 0)) _ _ stop in
    omega (arith, step)

pub end_plain : (q : ℕ → Bool) (octets : List ℕ) (at : ℕ) → length octets ≤ at → at ≡ at + prefix_len q (drop at octets)
end_plain q octets at done = let e = ap (prefix_len q) (drop_all at octets done) in omega (arith, e)
