-- Sixteen octets that are the codes of their own characters, by two look-ups of their halves.
use Rattle.std.proofs.Common.{◌≡◌, ℕ, ◌+◌, ◌*◌, ◌/◌, ◌%◌, ◌^◌, ◌<◌, Bool, true, false, not, cond, eqb, List, [], ◌∷◌, map, length, get_or, replicate, bit_and, refl, sym, ap, ◌∙◌, arith, w8, Fits, eqb-true}
use Rattle.std.specs.Prelude.{◌==◌}
use Rattle.std.proofs.lemmas.List.{get_or-map, length-map, ext_get_or}
use Rattle.std.proofs.lemmas.Nat.{and_le_r}
use Rattle.std.proofs.lemmas.Simd.{Each1-all, Each1-weaker, Each1-zip2, Each1-get_or, Each2-splat, below_from_Fits, length-zip2, mask_l-mod, swz_l, SwzOk, SwzOk-from_below, length-swz_l, get_or-swz_l_below, zip2_splat, zip2_of_maps}
use lib.Lanes.{zip2, mask_l, top, Each1}
use Rattle.sms_text.specs.Inside.Same.{IsSame, AreSame}
use Rattle.sms_text.proofs.CodeTables.{each_passes, is_plain, same_is}
use Rattle.sms_text.specs.declared.same.TheConstants.{LOW_HALVES, HIGH_HALVES}

abbrev down : ℕ → ℕ → ℕ
down a b = a / 2 ^ b

pub high_ok : (v : List ℕ) → length v ≡ 16 → Each1 (Fits w8) v → SwzOk w8 16 16 0 (zip2 down v (replicate 16 4))
high_ok v long fits =
    let small = Each1-weaker (λ a. a < 256) (λ a. a / 16 < 16) (λ a h. omega arith) v (below_from_Fits w8 v fits) in
    SwzOk-from_below w8 16 1 16 0 (zip2 down v (replicate 16 4)) refl (omega (arith, length-zip2 down v (replicate 16 4) long))
    (Each1-zip2 down (λ j. j < 16) v (replicate 16 4) (Each2-splat (λ a b. down a b < 16) v 16 4 small))

pub low_ok : (v : List ℕ) → length v ≡ 16 → Each1 (Fits w8) v → SwzOk w8 16 16 0 (zip2 bit_and v (replicate 16 15))
low_ok v long fits =
    let small = Each1-all (λ a. bit_and a 15 < 16) (λ a. omega (arith, and_le_r a 15)) v in
    SwzOk-from_below w8 16 1 16 0 (zip2 bit_and v (replicate 16 15)) refl (omega (arith, length-zip2 bit_and v (replicate 16 15) long))
    (Each1-zip2 bit_and (λ j. j < 16) v (replicate 16 15) (Each2-splat (λ a b. bit_and a b < 16) v 16 15 small))

-- a table of sixteen, read at places g x
looked_up : (t : List ℕ) (g : ℕ → ℕ) (v js : List ℕ) → length v ≡ 16 → Each1 (Fits w8) v → js ≡ map g v → ((x : ℕ) → x < 256 → g x < 16) → swz_l w8 16 t 0 js ≡ map (λ x. get_or t (g x) 0) v
looked_up t g v js sixteen fits e small =
    let long : length js ≡ 16 = ap length e ∙ length-map v g ∙ sixteen in
    ext_get_or 0 _ _ (length-swz_l w8 16 t 0 js ∙ long ∙ sym (length-map v (λ x. get_or t (g x) 0) ∙ sixteen)) (λ i h.
    let lt : i < 16 = omega (arith, length-swz_l w8 16 t 0 js, long, h) in
    let within : i < length v = omega (arith, sixteen, lt) in
    let is : get_or js i 0 ≡ g (get_or v i 0) = ap (λ l. get_or l i 0) e ∙ get_or-map g v i 0 0 within in
    let lane : get_or v i 0 < 256 = (Each1-get_or (Fits w8) v i 0 within fits).fits in
    let below : get_or js i 0 < 16 = omega (arith, is, small (get_or v i 0) lane) in
    let first : 16 * ((0 + i) / 16) + get_or js i 0 ≡ get_or js i 0 = omega (arith, lt) in
    get_or-swz_l_below w8 16 t 0 js i (omega (arith, long, lt)) below
    ∙ ap (λ k. get_or t k 0) (first ∙ is) ∙ sym (get_or-map (λ x. get_or t (g x) 0) v i 0 0 within))

-- what both tables have at the halves of a code
abbrev faults : ℕ → ℕ
faults x = bit_and (get_or LOW_HALVES (bit_and x 15) 0) (get_or HIGH_HALVES (x / 16) 0)

abbrev faults_test : ℕ → Bool
faults_test x = cond (faults x == 0) (is_plain x) true

same_without : (x : ℕ) → x < 256 → faults x ≡ 0 → IsSame x
same_without x small none = same_is x small (plain (faults x == 0) (is_plain x) (is (faults x) none) (each_passes faults_test 256 x refl small))
  where
    is : (n : ℕ) → n ≡ 0 → (n == 0) ≡ true
    is n e = rw e refl

    plain : (b p : Bool) → b ≡ true → cond b p true ≡ true → p ≡ true
    plain true p e t = t
    plain false p e t = absurd cc

abbrev differs : ℕ → ℕ → ℕ
differs a b = cond (not (eqb a b)) 255 0

no_flag : (x : ℕ) → ◌≡◌ {A = ℕ} (cond (top 7 (differs x 0)) 1 0) 0 → x ≡ 0
no_flag x = go (eqb x 0) refl
  where
    go : (t : Bool) → eqb x 0 ≡ t → ◌≡◌ {A = ℕ} (cond (top 7 (cond (not t) 255 0)) 1 0) 0 → x ≡ 0
    go true e z = eqb-true _ _ e
    go false e z = absurd (omega arith)

none_faulty : (xs : List ℕ) → Each1 (Fits w8) xs → mask_l (map (top 7) (zip2 differs (map faults xs) (replicate (length xs) 0))) ≡ 0 → AreSame xs
none_faulty [] fits e = tt
none_faulty (x ∷ xs) fits e = (same_without x fits.0.fits (no_flag (faults x) (omega arith)), none_faulty xs fits.1 (omega arith))

pub same_lanes : (v low high : List ℕ) → length v ≡ 16 → Each1 (Fits w8) v → low ≡ zip2 bit_and v (replicate 16 15) → high ≡ zip2 down v (replicate 16 4)
    → eqb (mask_l (map (top 7) (zip2 differs (zip2 bit_and (swz_l w8 16 LOW_HALVES 0 low) (swz_l w8 16 HIGH_HALVES 0 high)) (replicate 16 0))) % 2 ^ 64) 0 ≡ true → AreSame v
same_lanes v low high sixteen fits e f none =
    let lows = looked_up LOW_HALVES (λ x. bit_and x 15) v low sixteen fits (e ∙ zip2_splat bit_and v 16 15 sixteen) (λ x h. omega (arith, and_le_r x 15)) in
    let highs = looked_up HIGH_HALVES (λ x. x / 16) v high sixteen fits (f ∙ zip2_splat down v 16 4 sixteen) (λ x h. omega arith) in
    let both : zip2 bit_and (swz_l w8 16 LOW_HALVES 0 low) (swz_l w8 16 HIGH_HALVES 0 high) ≡ map faults v = zip2_of_maps bit_and (λ x. get_or LOW_HALVES (bit_and x 15) 0) (λ x. get_or HIGH_HALVES (x / 16) 0) v lows highs in
    let small : mask_l (map (top 7) (zip2 differs (map faults v) (replicate 16 0))) % 2 ^ 64 ≡ mask_l (map (top 7) (zip2 differs (map faults v) (replicate 16 0))) =
    mask_l-mod _ 64 (omega (arith, length-map (zip2 differs (map faults v) (replicate 16 0)) (top 7), length-zip2 differs (map faults v) (replicate 16 0) (length-map v faults ∙ sixteen), length-map v faults, sixteen)) in
    none_faulty v fits
    (ap (λ n. mask_l (map (top 7) (zip2 differs (map faults v) (replicate n 0)))) sixteen ∙ sym small ∙ ap (λ l. mask_l (map (top 7) (zip2 differs l (replicate 16 0))) % 2 ^ 64) (sym both) ∙ eqb-true _ _ none)
