-- Blocks of hexadecimal digits.
use Rattle.std.proofs.Common.{◌≡◌, ℕ, ◌+◌, ◌-◌, ◌*◌, ◌/◌, ◌%◌, ◌^◌, ◌<◌, ◌≤◌, Bool, true, cond, eqb, ltb, List, [], ◌∷◌, ◌++◌, map, length, get_or, slice_index, replicate, bit_and, bit_or, refl, sym, ap, subst, ◌∙◌, arith, Fits, w8}
use Rattle.std.specs.List.{list_all}
use Rattle.std.proofs.lemmas.Simd.{below_from_Fits, chunk-fits, length-chunk, map-map, mask_l-mod}
use Rattle.std.proofs.lemmas.List.{length-map}
use Rattle.std.proofs.lemmas.Nat.{or_shifted}
use Rattle.std.proofs.lemmas.Bool.{eqb-true, eq-eqb, ltb-true, agree_below_at}
use lib.Lanes.{zip2, pick_l, sel_l, Each1, mask_l, top, chunk, put_chunk}
use Rattle.sms_page.specs.Inside.Place.{IsPut}
use Rattle.sms_page.proofs.PlaceLemmas.{IsPut-put_chunk, IsPut-then}
use Rattle.hex.specs.Hex.{encode_with, encode_upper, upper_digits, is_hex_digit}
use Rattle.sms_page.specs.Hexadecimal.{number_of}
use Rattle.sms_page.specs.Inside.Pairs.{octets_of_pairs}
use Rattle.sms_page.proofs.Lanes.{by_lanes, same_lanes, same_tests, same_where, Each1-map, all_set, set_all}

abbrev add : ℕ → ℕ → ℕ
add a b = (a + b) % 256

abbrev sub : ℕ → ℕ → ℕ
sub a b = (a + (256 - b)) % 256

abbrev below : ℕ → ℕ → ℕ
below a b = cond (ltb a b) 255 0

-- ---- digits of numbers

abbrev digit_lane : ℕ → ℕ
digit_lane n = add n (cond (top 7 (below 9 n)) 55 48)

abbrev pub digits_vector : List ℕ → List ℕ
digits_vector v = zip2 add v (sel_l (map (top 7) (zip2 below (replicate 16 9) v)) (replicate 16 55) (replicate 16 48))

pub digits_are : (v : List ℕ) → length v ≡ 16 → Each1 (λ n. n < 16) v → digits_vector v ≡ map (λ n. slice_index upper_digits n) v
digits_are v long small =
    by_lanes digits_vector (map digit_lane) 16 v long refl
    ∙ same_lanes digit_lane (λ n. slice_index upper_digits n) 16 refl v small

-- ---- digits of a block of octets

abbrev down : ℕ → ℕ → ℕ
down a b = a / 2 ^ b

abbrev pub high_digit : ℕ → ℕ
high_digit octet = slice_index upper_digits (octet / 16)

abbrev pub low_digit : ℕ → ℕ
low_digit octet = slice_index upper_digits (octet % 16)

abbrev pub front_half : List ℕ → List ℕ → List ℕ
front_half high low = pick_l 0 (high ++ low) (0 ∷ 16 ∷ 1 ∷ 17 ∷ 2 ∷ 18 ∷ 3 ∷ 19 ∷ 4 ∷ 20 ∷ 5 ∷ 21 ∷ 6 ∷ 22 ∷ 7 ∷ 23 ∷ [])

abbrev pub back_half : List ℕ → List ℕ → List ℕ
back_half high low = pick_l 0 (high ++ low) (8 ∷ 24 ∷ 9 ∷ 25 ∷ 10 ∷ 26 ∷ 11 ∷ 27 ∷ 12 ∷ 28 ∷ 13 ∷ 29 ∷ 14 ∷ 30 ∷ 15 ∷ 31 ∷ [])

abbrev pub highs : List ℕ → List ℕ
highs v = zip2 down v (replicate 16 4)

abbrev pub lows : List ℕ → List ℕ
lows v = zip2 bit_and v (replicate 16 15)

highs_are : (v : List ℕ) → length v ≡ 16 → highs v ≡ map (λ x. x / 16) v
highs_are v long = by_lanes highs (map (λ x. x / 16)) 16 v long refl

lows_are : (v : List ℕ) → length v ≡ 16 → Each1 (λ x. x < 256) v → lows v ≡ map (λ x. x % 16) v
lows_are v long small =
    by_lanes lows (map (λ x. bit_and x 15)) 16 v long refl ∙ same_lanes (λ x. bit_and x 15) (λ x. x % 16) 256 refl v small

pub highs_below : (v : List ℕ) → length v ≡ 16 → Each1 (λ x. x < 256) v → Each1 (λ n. n < 16) (highs v)
highs_below v long small =
    subst (λ (l : List ℕ). Each1 (λ n. n < 16) l) (sym (highs_are v long)) (Each1-map (λ n. n < 16) (λ x. x / 16) 256 (λ x h. omega (arith, h)) v small)

pub lows_below : (v : List ℕ) → length v ≡ 16 → Each1 (λ x. x < 256) v → Each1 (λ n. n < 16) (lows v)
lows_below v long small =
    subst (λ (l : List ℕ). Each1 (λ n. n < 16) l) (sym (lows_are v long small)) (Each1-map (λ n. n < 16) (λ x. x % 16) 256 (λ x h. omega (arith, h)) v small)

woven : (v : List ℕ) → length v ≡ 16 → front_half (map high_digit v) (map low_digit v) ++ back_half (map high_digit v) (map low_digit v) ≡ encode_upper v
unfolding encode_with
woven v long = by_lanes (λ (w : List ℕ). front_half (map high_digit w) (map low_digit w) ++ back_half (map high_digit w) (map low_digit w)) encode_upper 16 v long refl

-- the octets of a slice are octets
pub bytes_of : (at n : ℕ) (octets : List ℕ) → ((k : ℕ) → Fits w8 (get_or octets k 0)) → Each1 (λ x. x < 256) (chunk at n octets)
bytes_of at n octets fits = below_from_Fits w8 (chunk at n octets) (chunk-fits w8 at n octets fits)

pub block_put : (digits octets high low : List ℕ) (at : ℕ) → at + 16 ≤ length octets → length digits ≡ 2 * length octets → ((k : ℕ) → Fits w8 (get_or octets k 0))
    → high ≡ map (λ n. slice_index upper_digits n) (highs (chunk at 16 octets)) → low ≡ map (λ n. slice_index upper_digits n) (lows (chunk at 16 octets))
    → IsPut digits (put_chunk (2 * at + 16) (put_chunk (2 * at) digits (front_half high low)) (back_half high low)) (2 * at) (encode_upper (chunk at 16 octets))
block_put digits octets high low at within room fits h l =
    let v = chunk at 16 octets in
    let long = length-chunk at 16 octets within in
    let high_is : high ≡ map high_digit v = h ∙ ap (map (λ n. slice_index upper_digits n)) (highs_are v long) ∙ map-map (λ n. slice_index upper_digits n) (λ x. x / 16) v in
    let low_is : low ≡ map low_digit v = l ∙ ap (map (λ n. slice_index upper_digits n)) (lows_are v long (bytes_of at 16 octets fits)) ∙ map-map (λ n. slice_index upper_digits n) (λ x. x % 16) v in
    let all : front_half high low ++ back_half high low ≡ encode_upper v =
    ap (λ (h : List ℕ). front_half h low ++ back_half h low) high_is ∙ ap (λ (l : List ℕ). front_half (map high_digit v) l ++ back_half (map high_digit v) l) low_is ∙ woven v long in
    let first = IsPut-put_chunk digits (front_half high low) (2 * at) (omega arith) in
    let second = IsPut-put_chunk (put_chunk (2 * at) digits (front_half high low)) (back_half high low) (2 * at + 16) (omega (arith, first.as_long)) in
    let Q : List ℕ → Type 0 = λ l. IsPut digits (put_chunk (2 * at + 16) (put_chunk (2 * at) digits (front_half high low)) (back_half high low)) (2 * at) l in
    subst Q all (IsPut-then (2 * at) first second)

-- ---- numbers of digits

abbrev decimals : List ℕ → List ℕ
decimals v = zip2 sub v (replicate 32 48)

abbrev letters : List ℕ → List ℕ
letters v = zip2 sub (zip2 bit_or v (replicate 32 32)) (replicate 32 97)

abbrev pub numbers_vector : List ℕ → List ℕ
numbers_vector v = sel_l (map (top 7) (zip2 below (decimals v) (replicate 32 10))) (decimals v) (zip2 add (letters v) (replicate 32 10))

abbrev pub hits_vector : List ℕ → List Bool
hits_vector v = map (top 7) (zip2 bit_or (zip2 below (decimals v) (replicate 32 10)) (zip2 below (letters v) (replicate 32 6)))

abbrev number_lane : ℕ → ℕ
number_lane x = cond (top 7 (below (sub x 48) 10)) (sub x 48) (add (sub (bit_or x 32) 97) 10)

abbrev hit_lane : ℕ → Bool
hit_lane x = top 7 (bit_or (below (sub x 48) 10) (below (sub (bit_or x 32) 97) 6))

hits_are : (v : List ℕ) → length v ≡ 32 → Each1 (λ x. x < 256) v → hits_vector v ≡ map is_hex_digit v
hits_are v long small = by_lanes hits_vector (map hit_lane) 32 v long refl ∙ same_tests hit_lane is_hex_digit 256 refl v small

pub all_digits : (v : List ℕ) → length v ≡ 32 → Each1 (λ x. x < 256) v
    → (eqb (mask_l (hits_vector v) % 2 ^ 64) 4294967295 ≡ true → list_all is_hex_digit v ≡ true)
    × (list_all is_hex_digit v ≡ true → eqb (mask_l (hits_vector v) % 2 ^ 64) 4294967295 ≡ true)
all_digits v long small =
    let size : 2 ^ length v ≡ 4294967296 = ap (λ (n : ℕ). 2 ^ n) long in
    let whole = ap (λ (l : List Bool). mask_l l % 2 ^ 64) (hits_are v long small) ∙ mask_l-mod (map is_hex_digit v) 64 (omega (arith, length-map v is_hex_digit, long)) in (
      λ e. set_all is_hex_digit v (omega (arith, size, whole, eqb-true _ 4294967295 e)),
      λ all. eq-eqb _ 4294967295 (omega (arith, size, whole, all_set is_hex_digit v all)),
    )

pub numbers_are : (v : List ℕ) → length v ≡ 32 → Each1 (λ x. x < 256) v → list_all is_hex_digit v ≡ true → numbers_vector v ≡ map number_of v
numbers_are v long small all =
    by_lanes numbers_vector (map number_lane) 32 v long refl ∙ same_where is_hex_digit number_lane number_of 256 refl v small all

-- ---- octets of a block of digits

abbrev up : ℕ → ℕ → ℕ
up a b = (a * 2 ^ b) % 256

abbrev join : ℕ → ℕ → ℕ
join a b = bit_or (up a 4) b

abbrev pairs_by : (ℕ → ℕ → ℕ) → List ℕ → List ℕ
pairs_by f [] = []
pairs_by f (a ∷ []) = []
pairs_by f (a ∷ b ∷ rest) = f a b ∷ pairs_by f rest

abbrev pub wholes : List ℕ → List ℕ
wholes n = zip2 bit_or (zip2 up (pick_l 0 (n ++ n) (0 ∷ 2 ∷ 4 ∷ 6 ∷ 8 ∷ 10 ∷ 12 ∷ 14 ∷ 16 ∷ 18 ∷ 20 ∷ 22 ∷ 24 ∷ 26 ∷ 28 ∷ 30 ∷ [])) (replicate 16 4)) (pick_l 0 (n ++ n) (1 ∷ 3 ∷ 5 ∷ 7 ∷ 9 ∷ 11 ∷ 13 ∷ 15 ∷ 17 ∷ 19 ∷ 21 ∷ 23 ∷ 25 ∷ 27 ∷ 29 ∷ 31 ∷ []))

number_small : (x : ℕ) → x < 256 → number_of x < 16
number_small x h = ltb-true (number_of x) 16 (agree_below_at (λ x. ltb (number_of x) 16) (λ _. true) 256 x refl h)

joined : (a b : ℕ) → a < 16 → b < 16 → join a b ≡ a * 16 + b
joined a b p q = let e : (a * 16) % 256 ≡ a * 16 = omega arith in ap (λ (n : ℕ). bit_or n b) e ∙ or_shifted a 4 b q

pairs_are : (v : List ℕ) → Each1 (λ x. x < 256) v → pairs_by join (map number_of v) ≡ octets_of_pairs v
unfolding octets_of_pairs
pairs_are [] small = refl
pairs_are (a ∷ []) small = refl
pairs_are (a ∷ b ∷ v) small =
    ap (λ (n : ℕ). n ∷ pairs_by join (map number_of v)) (joined (number_of a) (number_of b) (number_small a small.0) (number_small b small.1.0))
    ∙ ap (λ (l : List ℕ). (number_of a * 16 + number_of b) ∷ l) (pairs_are v small.1.1)

pub numbers_put : (octets digits numbers : List ℕ) (at : ℕ) → at + 16 ≤ length octets → length digits ≡ 2 * length octets → ((k : ℕ) → Fits w8 (get_or digits k 0))
    → numbers ≡ map number_of (chunk (2 * at) 32 digits)
    → IsPut octets (put_chunk at octets (wholes numbers)) at (octets_of_pairs (chunk (2 * at) 32 digits))
numbers_put octets digits numbers at within room fits e =
    let v = chunk (2 * at) 32 digits in
    let long : length numbers ≡ 32 = ap length e ∙ length-map v number_of ∙ length-chunk (2 * at) 32 digits (omega arith) in
    let whole = by_lanes wholes (pairs_by join) 32 numbers long refl ∙ ap (pairs_by join) e ∙ pairs_are v (bytes_of (2 * at) 32 digits fits) in
    let Q : List ℕ → Type 0 = λ l. IsPut octets (put_chunk at octets (wholes numbers)) at l in
    subst Q whole (IsPut-put_chunk octets (wholes numbers) at within)
