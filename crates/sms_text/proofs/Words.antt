-- A word as octets and as septets: its bits, cut in eights and in sevens.
use Rattle.std.proofs.Common.{◌≡◌, ℕ, zero, suc, ◌+◌, ◌-◌, ◌*◌, ◌/◌, ◌%◌, ◌^◌, ◌<◌, ◌≤◌, ◌⊎◌, inl, inr, Bool, true, false, ltb, min, List, [], ◌∷◌, ◌++◌, length, take, drop, get_or, replicate, refl, sym, ap, subst, ◌∙◌, append_assoc, arith}
use Rattle.std.proofs.Math.Nat.{pow-succ', div-div-eq-div-mul}
use Rattle.std.proofs.lemmas.List.{append-nil, take_at, drop_at, take_rest, drop_more, take-append-drop, length-take-le, take-take, drop-drop}
use Rattle.std.proofs.lemmas.Bool.{ltb-true, ltb-false}
use Rattle.std.proofs.lemmas.Nat.{shl-shr, shl_whole, pow-add}
use Rattle.std.proofs.lemmas.Grind.{flat_map-append}
use Rattle.std.proofs.Math.Nat.{pow-le-pow_right}
use Rattle.sms_text.specs.Bits.{bits, from_bits, octet_bits, septet_bits, septets_of, AreSeptets, PackedPlain}
use Rattle.sms_text.specs.Octets.{IsOctets}
use Rattle.sms_text.specs.Inside.Words.{low_octets, low_septets}
use Rattle.sms_text.proofs.BitLists.{bits-of_zero, bits-more, doubled, low_same, high_more}
use Rattle.sms_text.specs.Inside.PackingLaws.{length-bits, from_bits-bits, length-octet_bits, octet_bits-cons, septet_bits-cons}

-- ---- the bits of a word in two parts

pub bits-split : (v w n : ℕ) → bits (v + w) n ≡ bits v n ++ bits w (n / 2 ^ v)
unfolding bits
bits-split zero w n = let none : 0 + w ≡ w = omega arith in let same : n / 2 ^ 0 ≡ n = omega arith in rw (none, same) refl
bits-split (suc v) w n =
    let sum : suc v + w ≡ suc (v + w) = omega arith in
    ap (λ (m : ℕ). bits m n) sum ∙ ap (λ (l : List ℕ). n % 2 ∷ l) (bits-split v w (n / 2)) ∙ ap (λ (x : ℕ). n % 2 ∷ (bits v (n / 2) ++ bits w x)) (rw pow-succ' (div-div-eq-div-mul n 2 (2 ^ v)))

pub bits-high : (w a b : ℕ) → bits w (a + b * 2 ^ w) ≡ bits w a
unfolding bits
bits-high zero a b = refl
bits-high (suc w) a b =
    ap (λ (y : ℕ). y ∷ bits w ((a + b * 2 ^ suc w) / 2)) (low_same a (b * 2 ^ w) (b * 2 ^ suc w) (doubled w b)) ∙ ap (λ (y : ℕ). a % 2 ∷ bits w y) (high_more a (b * 2 ^ w) (b * 2 ^ suc w) (doubled w b)) ∙ ap (λ (l : List ℕ). a % 2 ∷ l) (bits-high w (a / 2) b)

bits-octet : (n : ℕ) → bits 8 (n % 256) ≡ bits 8 n
bits-octet n = let e : n ≡ n % 256 + n / 256 * 2 ^ 8 = omega arith in sym (ap (bits 8) e ∙ bits-high 8 (n % 256) (n / 256))

bits-septet : (n : ℕ) → bits 7 (n % 128) ≡ bits 7 n
bits-septet n = let e : n ≡ n % 128 + n / 128 * 2 ^ 7 = omega arith in sym (ap (bits 7) e ∙ bits-high 7 (n % 128) (n / 128))

-- ---- the law that a block rests on: both lists have the bits of the word

no_octets : octet_bits [] ≡ []
unfolding octet_bits
no_octets = refl

no_septets : septet_bits [] ≡ []
unfolding septet_bits
no_septets = refl

none : (n : ℕ) → [] ≡ bits 0 n
unfolding bits
none n = refl

pub octets_of_word : (k n : ℕ) → octet_bits (low_octets k n) ≡ bits (8 * k) n
unfolding low_octets
octets_of_word zero n = no_octets ∙ none n
octets_of_word (suc k) n =
    let sum : 8 + 8 * k ≡ 8 * suc k = omega arith in
    octet_bits-cons (n % 256) (low_octets k (n / 256)) ∙ ap (λ (l : List ℕ). l ++ octet_bits (low_octets k (n / 256))) (bits-octet n) ∙ ap (λ (l : List ℕ). bits 8 n ++ l) (octets_of_word k (n / 256)) ∙ sym (bits-split 8 (8 * k) n) ∙ ap (λ (m : ℕ). bits m n) sum

pub septets_of_word : (k n : ℕ) → septet_bits (low_septets k n) ≡ bits (7 * k) n
unfolding low_septets
septets_of_word zero n = no_septets ∙ none n
septets_of_word (suc k) n =
    let sum : 7 + 7 * k ≡ 7 * suc k = omega arith in
    septet_bits-cons (n % 128) (low_septets k (n / 128)) ∙ ap (λ (l : List ℕ). l ++ septet_bits (low_septets k (n / 128))) (bits-septet n) ∙ ap (λ (l : List ℕ). bits 7 n ++ l) (septets_of_word k (n / 128)) ∙ sym (bits-split 7 (7 * k) n) ∙ ap (λ (m : ℕ). bits m n) sum

pub length-low_septets : (k n : ℕ) → length (low_septets k n) ≡ k
unfolding low_septets
length-low_septets zero n = refl
length-low_septets (suc k) n = ap suc (length-low_septets k (n / 128))

pub septets-low : (k n : ℕ) → AreSeptets (low_septets k n)
unfolding low_septets
septets-low zero n = tt
septets-low (suc k) n = (omega arith, septets-low k (n / 128))

-- ---- a word that is made octet by octet, or septet by septet

pub low_octets-cons : (k o w : ℕ) → o < 256 → low_octets (suc k) (o + 256 * w) ≡ o ∷ low_octets k w
unfolding low_octets
low_octets-cons k o w small =
    let low : (o + 256 * w) % 256 ≡ o = omega arith in
    let high : (o + 256 * w) / 256 ≡ w = omega arith in
    rw (low, high) refl

pub low_septets-cons : (k s w : ℕ) → s < 128 → low_septets (suc k) (s + 128 * w) ≡ s ∷ low_septets k w
unfolding low_septets
low_septets-cons k s w small =
    let low : (s + 128 * w) % 128 ≡ s = omega arith in
    let high : (s + 128 * w) / 128 ≡ w = omega arith in
    rw (low, high) refl

-- ---- all septets at the front of bits

pub septets_first : (septets back : List ℕ) (k j : ℕ) → AreSeptets septets → length septets ≡ k → septets_of (k + j) (septet_bits septets ++ back) ≡ septets ++ septets_of j back
unfolding septets_of
septets_first [] back k j fits len = let none : k + j ≡ j = omega arith in rw (none, no_septets) refl
septets_first (s ∷ rest) back k j fits len =
    let sum : k + j ≡ suc (length rest + j) = omega arith in
    let whole : septet_bits (s ∷ rest) ++ back ≡ bits 7 s ++ (septet_bits rest ++ back) = ap (λ (l : List ℕ). l ++ back) (septet_bits-cons s rest) ∙ append_assoc (bits 7 s) (septet_bits rest) back in
    let first : from_bits (take 7 (septet_bits (s ∷ rest) ++ back)) ≡ s = ap (λ (l : List ℕ). from_bits (take 7 l)) whole ∙ ap from_bits (take_at (bits 7 s) (septet_bits rest ++ back) 7 (length-bits 7 s)) ∙ from_bits-bits 7 s fits.0 in
    let others : drop 7 (septet_bits (s ∷ rest) ++ back) ≡ septet_bits rest ++ back = ap (drop 7) whole ∙ drop_at (bits 7 s) (septet_bits rest ++ back) 7 (length-bits 7 s) in
    ap (λ (n : ℕ). septets_of n (septet_bits (s ∷ rest) ++ back)) sum ∙ ap (λ (x : ℕ). x ∷ septets_of (length rest + j) (drop 7 (septet_bits (s ∷ rest) ++ back))) first ∙ ap (λ (l : List ℕ). s ∷ septets_of (length rest + j) l) others ∙ ap (λ (l : List ℕ). s ∷ l) (septets_first rest back (length rest) j fits.1 refl)

-- ---- one after another

pub one_more_septets : (old new : List ℕ) (count i w s : ℕ) (total : List ℕ) → i < count → new ≡ old ++ s ∷ [] → s ≡ w % 128 → old ++ low_septets (count - i) w ≡ total → new ++ low_septets (count - (i + 1)) (w / 128) ≡ total
unfolding low_septets
one_more_septets old new count i w s total lt pushed is so_far =
    let one : count - i ≡ suc (count - (i + 1)) = omega arith in
    ap (λ (l : List ℕ). l ++ low_septets (count - (i + 1)) (w / 128)) pushed ∙ append_assoc old (s ∷ []) (low_septets (count - (i + 1)) (w / 128)) ∙ ap (λ (x : ℕ). old ++ (x ∷ low_septets (count - (i + 1)) (w / 128))) is ∙ ap (λ (n : ℕ). old ++ low_septets n w) (sym one) ∙ so_far

pub no_more_septets : (old : List ℕ) (count i w : ℕ) (total : List ℕ) → count ≤ i → old ++ low_septets (count - i) w ≡ total → old ≡ total
unfolding low_septets
no_more_septets old count i w total le so_far = let none : count - i ≡ 0 = omega arith in sym (append-nil old) ∙ ap (λ (n : ℕ). old ++ low_septets n w) (sym none) ∙ so_far

pub one_more_octets : (old new : List ℕ) (count i w s : ℕ) (total : List ℕ) → i < count → new ≡ old ++ s ∷ [] → s ≡ w % 256 → old ++ low_octets (count - i) w ≡ total → new ++ low_octets (count - (i + 1)) (w / 256) ≡ total
unfolding low_octets
one_more_octets old new count i w s total lt pushed is so_far =
    let one : count - i ≡ suc (count - (i + 1)) = omega arith in
    ap (λ (l : List ℕ). l ++ low_octets (count - (i + 1)) (w / 256)) pushed ∙ append_assoc old (s ∷ []) (low_octets (count - (i + 1)) (w / 256)) ∙ ap (λ (x : ℕ). old ++ (x ∷ low_octets (count - (i + 1)) (w / 256))) is ∙ ap (λ (n : ℕ). old ++ low_octets n w) (sym one) ∙ so_far

pub no_more_octets : (old : List ℕ) (count i w : ℕ) (total : List ℕ) → count ≤ i → old ++ low_octets (count - i) w ≡ total → old ≡ total
unfolding low_octets
no_more_octets old count i w total le so_far = let none : count - i ≡ 0 = omega arith in sym (append-nil old) ∙ ap (λ (n : ℕ). old ++ low_octets n w) (sym none) ∙ so_far

no_low_septets : (w : ℕ) → low_septets 0 w ≡ []
unfolding low_septets
no_low_septets w = refl

no_low_octets : (w : ℕ) → low_octets 0 w ≡ []
unfolding low_octets
no_low_octets w = refl

-- ---- a block is the word of its septets, or of its octets

pub word_of_eight_octets : (xs : List ℕ) (w v : ℕ) → ((k : ℕ) → get_or xs k 0 < 256) → w ≡ get_or xs 0 0 + 256 * get_or xs 1 0 + 65536 * get_or xs 2 0 + 16777216 * get_or xs 3 0 + 4294967296 * get_or xs 4 0 + 1099511627776 * get_or xs 5 0 + 281474976710656 * get_or xs 6 0 + 72057594037927936 * v → low_octets 7 w ≡ get_or xs 0 0 ∷ get_or xs 1 0 ∷ get_or xs 2 0 ∷ get_or xs 3 0 ∷ get_or xs 4 0 ∷ get_or xs 5 0 ∷ get_or xs 6 0 ∷ []
word_of_eight_octets xs w v small is =
    let turned : w ≡ get_or xs 0 0 + 256 * (get_or xs 1 0 + 256 * (get_or xs 2 0 + 256 * (get_or xs 3 0 + 256 * (get_or xs 4 0 + 256 * (get_or xs 5 0 + 256 * (get_or xs 6 0 + 256 * v)))))) = omega (arith, is) in
    ap (low_octets 7) turned ∙ low_octets-cons 6 _ _ (small 0) ∙ ap (λ (l : List ℕ). get_or xs 0 0 ∷ l) (low_octets-cons 5 _ _ (small 1) ∙ ap (λ (l : List ℕ). get_or xs 1 0 ∷ l) (low_octets-cons 4 _ _ (small 2) ∙ ap (λ (l : List ℕ). get_or xs 2 0 ∷ l) (low_octets-cons 3 _ _ (small 3) ∙ ap (λ (l : List ℕ). get_or xs 3 0 ∷ l) (low_octets-cons 2 _ _ (small 4) ∙ ap (λ (l : List ℕ). get_or xs 4 0 ∷ l) (low_octets-cons 1 _ _ (small 5) ∙ ap (λ (l : List ℕ). get_or xs 5 0 ∷ l) (low_octets-cons 0 _ (v) (small 6) ∙ ap (λ (l : List ℕ). get_or xs 6 0 ∷ l) (no_low_octets (v))))))))

-- one more at the front
pub septet_in_front : (xs : List ℕ) (s w : ℕ) → 1 ≤ length xs → s ≡ get_or xs 0 0 → AreSeptets xs → low_septets (length (take (length xs - 1) (drop 1 xs))) w ≡ take (length xs - 1) (drop 1 xs) → low_septets (length xs) (s + 128 * w) ≡ xs
septet_in_front [] s w some is are e = absurd (omega arith)
septet_in_front (x ∷ xs) s w some is are e =
    let rest : take (length (x ∷ xs) - 1) (drop 1 (x ∷ xs)) ≡ xs = take_rest (x ∷ xs) 1 in
    let here : low_septets (length xs) w ≡ xs = rw rest at e in
    ap (λ (n : ℕ). low_septets (suc (length xs)) (n + 128 * w)) is ∙ low_septets-cons (length xs) x w are.0 ∙ ap (λ (l : List ℕ). x ∷ l) here

pub octet_in_front : (xs : List ℕ) (o w : ℕ) → 1 ≤ length xs → o ≡ get_or xs 0 0 → o < 256 → low_octets (length (take (length xs - 1) (drop 1 xs))) w ≡ take (length xs - 1) (drop 1 xs) → low_octets (length xs) (o + 256 * w) ≡ xs
octet_in_front [] o w some is small e = absurd (omega arith)
octet_in_front (x ∷ xs) o w some is small e =
    let rest : take (length (x ∷ xs) - 1) (drop 1 (x ∷ xs)) ≡ xs = take_rest (x ∷ xs) 1 in
    let here : low_octets (length xs) w ≡ xs = rw rest at e in
    let fits : x < 256 = rw is at small in
    ap (λ (n : ℕ). low_octets (suc (length xs)) (n + 256 * w)) is ∙ low_octets-cons (length xs) x w fits ∙ ap (λ (l : List ℕ). x ∷ l) here

pub nothing_in_septets : (xs : List ℕ) (w : ℕ) → length xs < 1 → low_septets (length xs) w ≡ xs
nothing_in_septets [] w few = no_low_septets w
nothing_in_septets (x ∷ xs) w few = absurd (omega arith)

pub nothing_in_octets : (xs : List ℕ) (w : ℕ) → length xs < 1 → low_octets (length xs) w ≡ xs
nothing_in_octets [] w few = no_low_octets w
nothing_in_octets (x ∷ xs) w few = absurd (omega arith)

pub first_fits : (xs : List ℕ) → 1 ≤ length xs → AreSeptets xs → get_or xs 0 0 < 128
first_fits [] some are = absurd (omega arith)
first_fits (x ∷ xs) some are = are.0

-- a word of few bits fits
pub few_bits : (w k n : ℕ) → w < 2 ^ k → k ≤ n → w < 2 ^ n
few_bits w k n small le =
    let two : 0 < 2 = omega arith in
    let more : 2 ^ k ≤ 2 ^ n = pow-le-pow_right two le in
    omega (arith, small, more)

pub one_more_bound : (s w n m : ℕ) → s < 128 → w < 2 ^ (7 * n) → m ≡ suc n → s + 128 * w < 2 ^ (7 * m)
one_more_bound s w n m small bound is =
    let seven : 7 * m ≡ 7 + 7 * n = omega arith in
    let e : 2 ^ (7 * m) ≡ 2 ^ 7 * 2 ^ (7 * n) = ap (λ (k : ℕ). 2 ^ k) seven ∙ pow-add 2 7 (7 * n) in
    omega (arith, e)

pub one_more_octet_bound : (s w n m : ℕ) → s < 256 → w < 2 ^ (8 * n) → m ≡ suc n → s + 256 * w < 2 ^ (8 * m)
one_more_octet_bound s w n m small bound is =
    let eight_more : 8 * m ≡ 8 + 8 * n = omega arith in
    let e : 2 ^ (8 * m) ≡ 2 ^ 8 * 2 ^ (8 * n) = ap (λ (k : ℕ). 2 ^ k) eight_more ∙ pow-add 2 8 (8 * n) in
    omega (arith, e)

-- ---- lists

pub octet_bits-append : (xs ys : List ℕ) → octet_bits (xs ++ ys) ≡ octet_bits xs ++ octet_bits ys
unfolding octet_bits
octet_bits-append xs ys = flat_map-append (bits 8) xs ys

pub septet_bits-append : (xs ys : List ℕ) → septet_bits (xs ++ ys) ≡ septet_bits xs ++ septet_bits ys
unfolding septet_bits
septet_bits-append xs ys = flat_map-append (bits 7) xs ys

pub septets-parts : (xs ys : List ℕ) → AreSeptets (xs ++ ys) → AreSeptets xs × AreSeptets ys
septets-parts [] ys are = (tt, are)
septets-parts (x ∷ xs) ys are = let h = septets-parts xs ys are.1 in ((are.0, h.0), h.1)

pub septets-take : (n : ℕ) (xs : List ℕ) → AreSeptets xs → AreSeptets (take n xs) × AreSeptets (drop n xs)
septets-take n xs are = septets-parts (take n xs) (drop n xs) (subst AreSeptets (sym (take-append-drop n xs)) are)

octets-append : (xs ys : List ℕ) → IsOctets xs → IsOctets ys → IsOctets (xs ++ ys)
octets-append [] ys p q = q
octets-append (x ∷ xs) ys p q = (p.0, octets-append xs ys p.1 q)

octets-low : (k n : ℕ) → IsOctets (low_octets k n)
unfolding low_octets
octets-low zero n = tt
octets-low (suc k) n = (omega arith, octets-low k (n / 256))

pub octets_more : (old new : List ℕ) (k n : ℕ) → IsOctets old → new ≡ old ++ low_octets k n → IsOctets new
octets_more old new k n are e = subst IsOctets (sym e) (octets-append old (low_octets k n) are (octets-low k n))

pub octets_first : (old new : List ℕ) (k n : ℕ) → old ≡ [] → new ≡ old ++ low_octets k n → IsOctets new
octets_first old new k n fresh e = octets_more old new k n (subst IsOctets (sym fresh) tt) e

abbrev pub first_seven : List ℕ → List ℕ
first_seven xs = get_or xs 0 0 ∷ get_or xs 1 0 ∷ get_or xs 2 0 ∷ get_or xs 3 0 ∷ get_or xs 4 0 ∷ get_or xs 5 0 ∷ get_or xs 6 0 ∷ []

abbrev pub first_eight : List ℕ → List ℕ
first_eight xs = get_or xs 0 0 ∷ get_or xs 1 0 ∷ get_or xs 2 0 ∷ get_or xs 3 0 ∷ get_or xs 4 0 ∷ get_or xs 5 0 ∷ get_or xs 6 0 ∷ get_or xs 7 0 ∷ []

seven_then : (xs : List ℕ) → 7 ≤ length xs → xs ≡ first_seven xs ++ drop 7 xs
seven_then xs many =
    drop_more xs 0 0 (omega arith) ∙ ap (λ (l : List ℕ). get_or xs 0 0 ∷ l) (drop_more xs 1 0 (omega arith) ∙ ap (λ (l : List ℕ). get_or xs 1 0 ∷ l) (drop_more xs 2 0 (omega arith) ∙ ap (λ (l : List ℕ). get_or xs 2 0 ∷ l) (drop_more xs 3 0 (omega arith) ∙ ap (λ (l : List ℕ). get_or xs 3 0 ∷ l) (drop_more xs 4 0 (omega arith) ∙ ap (λ (l : List ℕ). get_or xs 4 0 ∷ l) (drop_more xs 5 0 (omega arith) ∙ ap (λ (l : List ℕ). get_or xs 5 0 ∷ l) (drop_more xs 6 0 (omega arith)))))))

pub eight_then : (xs : List ℕ) → 8 ≤ length xs → xs ≡ first_eight xs ++ drop 8 xs
eight_then xs many =
    drop_more xs 0 0 (omega arith) ∙ ap (λ (l : List ℕ). get_or xs 0 0 ∷ l) (drop_more xs 1 0 (omega arith) ∙ ap (λ (l : List ℕ). get_or xs 1 0 ∷ l) (drop_more xs 2 0 (omega arith) ∙ ap (λ (l : List ℕ). get_or xs 2 0 ∷ l) (drop_more xs 3 0 (omega arith) ∙ ap (λ (l : List ℕ). get_or xs 3 0 ∷ l) (drop_more xs 4 0 (omega arith) ∙ ap (λ (l : List ℕ). get_or xs 4 0 ∷ l) (drop_more xs 5 0 (omega arith) ∙ ap (λ (l : List ℕ). get_or xs 5 0 ∷ l) (drop_more xs 6 0 (omega arith) ∙ ap (λ (l : List ℕ). get_or xs 6 0 ∷ l) (drop_more xs 7 0 (omega arith))))))))

pub eight_are : (xs : List ℕ) → 8 ≤ length xs → AreSeptets xs → AreSeptets (first_eight xs) × AreSeptets (take (length xs - 8) (drop 8 xs))
eight_are xs many are =
    let h = septets-parts (first_eight xs) (drop 8 xs) (subst AreSeptets (eight_then xs many) are) in
    (h.0, subst AreSeptets (sym (take_rest xs 8)) h.1)

-- ---- packing

shifted_bits : (fill m w : ℕ) → bits (fill + m) (w * 2 ^ fill) ≡ replicate fill 0 ++ bits m w
shifted_bits fill m w =
    bits-split fill m (w * 2 ^ fill) ∙ ap (λ (l : List ℕ). l ++ bits m (w * 2 ^ fill / 2 ^ fill)) (ap (bits fill) (omega arith) ∙ bits-high fill 0 w ∙ bits-of_zero fill) ∙ ap (λ (n : ℕ). replicate fill 0 ++ bits m n) (shl-shr w fill)

fits_shifted : (fill n w : ℕ) → fill < 7 → n ≤ fill → w < 2 ^ (7 * n) → (w * 2 ^ fill) % 2 ^ 64 ≡ w * 2 ^ fill
fits_shifted fill n w small few bound = shl_whole w (7 * n) fill 64 bound (omega arith)

pub few_packed : (fill w n : ℕ) (septets old octets : List ℕ) → fill < 7 → n ≡ length septets → n < fill → low_septets n w ≡ septets → w < 2 ^ (7 * n) → old ≡ [] → octets ≡ old ++ low_octets (n + 1) ((w * 2 ^ fill) % 2 ^ 64) → PackedPlain fill septets octets
few_packed fill w n septets old octets small len few is bound fresh written =
    let e : octets ≡ low_octets (n + 1) ((w * 2 ^ fill) % 2 ^ 64) = written ∙ ap (λ (l : List ℕ). l ++ low_octets (n + 1) ((w * 2 ^ fill) % 2 ^ 64)) fresh in
    let spare : ℕ = n + 8 - fill in
    let width : 8 * (n + 1) ≡ fill + (7 * n + spare) = omega arith in
    let inner : bits (7 * n + spare) w ≡ septet_bits septets ++ replicate spare 0 = bits-more (7 * n) spare w bound ∙ ap (λ (l : List ℕ). l ++ replicate spare 0) (sym (septets_of_word n w) ∙ ap septet_bits is) in
    record {
      spare = spare;
      few = omega arith;
      parts = ap octet_bits (e ∙ ap (low_octets (n + 1)) (fits_shifted fill n w small (omega arith) bound)) ∙ octets_of_word (n + 1) (w * 2 ^ fill) ∙ ap (λ (m : ℕ). bits m (w * 2 ^ fill)) width ∙ shifted_bits fill (7 * n + spare) w ∙ ap (λ (l : List ℕ). replicate fill 0 ++ l) inner ∙ sym (append_assoc (replicate fill 0) (septet_bits septets) (replicate spare 0));
    }

head_bits : (fill w : ℕ) (septets octets : List ℕ) → fill < 7 → fill ≤ length septets → low_septets (length (take fill septets)) w ≡ take fill septets → w < 2 ^ (7 * length (take fill septets)) → octets ≡ low_octets fill ((w * 2 ^ fill) % 2 ^ 64) → octet_bits octets ++ septet_bits (drop fill septets) ≡ replicate fill 0 ++ septet_bits septets
head_bits fill w septets octets small enough is bound e =
    let len : length (take fill septets) ≡ fill = length-take-le fill septets enough in
    let is_fill : low_septets fill w ≡ take fill septets = ap (λ (n : ℕ). low_septets n w) (sym len) ∙ is in
    let bound_fill : w < 2 ^ (7 * fill) = subst (λ (n : ℕ). w < 2 ^ (7 * n)) len bound in
    let width : 8 * fill ≡ fill + 7 * fill = omega arith in
    let front : octet_bits octets ≡ replicate fill 0 ++ septet_bits (take fill septets) = ap octet_bits (e ∙ ap (low_octets fill) (fits_shifted fill fill w small (omega arith) bound_fill)) ∙ octets_of_word fill (w * 2 ^ fill) ∙ ap (λ (m : ℕ). bits m (w * 2 ^ fill)) width ∙ shifted_bits fill (7 * fill) w ∙ ap (λ (l : List ℕ). replicate fill 0 ++ l) (sym (septets_of_word fill w) ∙ ap septet_bits is_fill) in
    ap (λ (l : List ℕ). l ++ septet_bits (drop fill septets)) front ∙ append_assoc (replicate fill 0) (septet_bits (take fill septets)) (septet_bits (drop fill septets)) ∙ ap (λ (l : List ℕ). replicate fill 0 ++ l) (sym (septet_bits-append (take fill septets) (drop fill septets)) ∙ ap septet_bits (take-append-drop fill septets))

pub head_packed : (fill w : ℕ) (septets first rest old octets : List ℕ) → fill < 7 → fill ≤ length septets → AreSeptets septets → first ≡ take fill septets → rest ≡ drop fill septets → low_septets (length first) w ≡ first → w < 2 ^ (7 * length first) → old ≡ [] → octets ≡ old ++ low_octets fill ((w * 2 ^ fill) % 2 ^ 64) → (octet_bits octets ++ septet_bits rest ≡ replicate fill 0 ++ septet_bits septets) × AreSeptets rest
head_packed fill w septets first rest old octets small enough are front back is bound fresh e =
    let is_taken : low_septets (length (take fill septets)) w ≡ take fill septets = subst (λ (l : List ℕ). low_septets (length l) w ≡ l) front is in
    let bound_taken : w < 2 ^ (7 * length (take fill septets)) = subst (λ (l : List ℕ). w < 2 ^ (7 * length l)) front bound in
    let written : octets ≡ low_octets fill ((w * 2 ^ fill) % 2 ^ 64) = e ∙ ap (λ (l : List ℕ). l ++ low_octets fill ((w * 2 ^ fill) % 2 ^ 64)) fresh in
    (ap (λ (l : List ℕ). octet_bits octets ++ septet_bits l) back ∙ head_bits fill w septets octets small enough is_taken bound_taken written, subst AreSeptets (sym back) (septets-take fill septets are).1)

pub block_packed : (rest old new : List ℕ) (w : ℕ) (total : List ℕ) → 8 ≤ length rest → low_septets 8 w ≡ first_eight rest → new ≡ old ++ low_octets 7 w → octet_bits old ++ septet_bits rest ≡ total → octet_bits new ++ septet_bits (take (length rest - 8) (drop 8 rest)) ≡ total
block_packed rest old new w total many is e so_far =
    let block : octet_bits new ≡ octet_bits old ++ septet_bits (first_eight rest) = ap octet_bits e ∙ octet_bits-append old (low_octets 7 w) ∙ ap (λ (l : List ℕ). octet_bits old ++ l) (octets_of_word 7 w ∙ sym (septets_of_word 8 w) ∙ ap septet_bits is) in
    let whole : septet_bits (first_eight rest) ++ septet_bits (drop 8 rest) ≡ septet_bits rest = sym (septet_bits-append (first_eight rest) (drop 8 rest)) ∙ ap septet_bits (sym (eight_then rest many)) in
    ap (λ (l : List ℕ). octet_bits new ++ septet_bits l) (take_rest rest 8) ∙ ap (λ (l : List ℕ). l ++ septet_bits (drop 8 rest)) block ∙ append_assoc (octet_bits old) (septet_bits (first_eight rest)) (septet_bits (drop 8 rest)) ∙ ap (λ (l : List ℕ). octet_bits old ++ l) whole ∙ so_far

pub last_packed : (fill w : ℕ) (rest old new septets : List ℕ) → length rest < 8 → low_septets (length rest) w ≡ rest → w < 2 ^ (7 * length rest) → new ≡ old ++ low_octets (length rest) w → octet_bits old ++ septet_bits rest ≡ replicate fill 0 ++ septet_bits septets → PackedPlain fill septets new
last_packed fill w rest old new septets few is bound e so_far =
    let r : ℕ = length rest in
    let width : 8 * r ≡ 7 * r + r = omega arith in
    let end : octet_bits (low_octets r w) ≡ septet_bits rest ++ replicate r 0 = octets_of_word r w ∙ ap (λ (m : ℕ). bits m w) width ∙ bits-more (7 * r) r w bound ∙ ap (λ (l : List ℕ). l ++ replicate r 0) (sym (septets_of_word r w) ∙ ap septet_bits is) in
    record {
      spare = r;
      few = few;
      parts = ap octet_bits e ∙ octet_bits-append old (low_octets r w) ∙ ap (λ (l : List ℕ). octet_bits old ++ l) end ∙ sym (append_assoc (octet_bits old) (septet_bits rest) (replicate r 0)) ∙ ap (λ (l : List ℕ). l ++ replicate r 0) so_far;
    }

-- ---- packed octets that are added to others

-- the octets added to `base` so far are those of the septets before the rest
pub record PackedSoFar (fill : ℕ) (septets rest base items : List ℕ) : Type 0 where
  pub part : List ℕ
  pub added : items ≡ base ++ part
  pub bits_are : octet_bits part ++ septet_bits rest ≡ replicate fill 0 ++ septet_bits septets
  pub octets : IsOctets part

-- octets that are added to `base` are those of the septets
abbrev pub PackedAfter : ℕ → List ℕ → List ℕ → List ℕ → Type 0
PackedAfter fill septets base items = (packed : List ℕ) × PackedPlain fill septets packed × IsOctets packed × (items ≡ base ++ packed)

pub few_added : (fill w n : ℕ) (septets base items : List ℕ) → fill < 7 → n ≡ length septets → n < fill → low_septets n w ≡ septets → w < 2 ^ (7 * n) → items ≡ base ++ low_octets (n + 1) ((w * 2 ^ fill) % 2 ^ 64) → PackedAfter fill septets base items
few_added fill w n septets base items small len few is bound e =
    let part : List ℕ = low_octets (n + 1) ((w * 2 ^ fill) % 2 ^ 64) in
    (part, few_packed fill w n septets [] part small len few is bound refl refl, octets_first [] part (n + 1) _ refl refl, e)

pub head_added : (fill w : ℕ) (septets first rest base items : List ℕ) → fill < 7 → fill ≤ length septets → AreSeptets septets → first ≡ take fill septets → rest ≡ drop fill septets → low_septets (length first) w ≡ first → w < 2 ^ (7 * length first) → items ≡ base ++ low_octets fill ((w * 2 ^ fill) % 2 ^ 64) → PackedSoFar fill septets rest base items × AreSeptets rest
head_added fill w septets first rest base items small enough are front back is bound e =
    let part : List ℕ = low_octets fill ((w * 2 ^ fill) % 2 ^ 64) in
    let head = head_packed fill w septets first rest [] part small enough are front back is bound refl refl in
    (record { part = part; added = e; bits_are = head.0; octets = octets_first [] part fill _ refl refl }, head.1)

pub more_added : (fill : ℕ) (septets rest last base old new packed : List ℕ) → IsOctets packed → new ≡ old ++ packed → octet_bits packed ++ septet_bits last ≡ septet_bits rest → PackedSoFar fill septets rest base old → PackedSoFar fill septets last base new
more_added fill septets rest last base old new packed are e same so_far = record {
  part = so_far.part ++ packed;
  added = e ∙ ap (λ (l : List ℕ). l ++ packed) so_far.added ∙ append_assoc base so_far.part packed;
  bits_are = ap (λ (l : List ℕ). l ++ septet_bits last) (octet_bits-append so_far.part packed) ∙ append_assoc (octet_bits so_far.part) (octet_bits packed) (septet_bits last) ∙ ap (λ (l : List ℕ). octet_bits so_far.part ++ l) same ∙ so_far.bits_are;
  octets = octets-append so_far.part packed so_far.octets are;
}

pub last_added : (fill w : ℕ) (septets rest base old new : List ℕ) → length rest < 8 → low_septets (length rest) w ≡ rest → w < 2 ^ (7 * length rest) → new ≡ old ++ low_octets (length rest) w → PackedSoFar fill septets rest base old → PackedAfter fill septets base new
last_added fill w septets rest base old new few is bound e so_far =
    let part : List ℕ = so_far.part ++ low_octets (length rest) w in
    (part, last_packed fill w rest so_far.part part septets few is bound refl so_far.bits_are, octets_more so_far.part part (length rest) w so_far.octets refl, e ∙ ap (λ (l : List ℕ). l ++ low_octets (length rest) w) so_far.added ∙ append_assoc base so_far.part (low_octets (length rest) w))

-- ---- unpacking

-- as many septets as given out of as many octets as given: the head, a block and the end
cut : (fill k m j w : ℕ) (octets : List ℕ) → fill + 7 * k ≤ 8 * m → low_octets m w ≡ take m octets → septets_of (k + j) (drop fill (octet_bits octets)) ≡ low_septets k (w / 2 ^ fill) ++ septets_of j (bits (8 * m - (fill + 7 * k)) (w / 2 ^ fill / 2 ^ (7 * k)) ++ octet_bits (drop m octets))
cut fill k m j w octets enough is =
    let left : ℕ = 8 * m - (fill + 7 * k) in
    let v : ℕ = w / 2 ^ fill in
    let back : List ℕ = octet_bits (drop m octets) in
    let more : List ℕ = bits left (v / 2 ^ (7 * k)) in
    let width : 8 * m ≡ fill + (7 * k + left) = omega arith in
    let front : octet_bits (take m octets) ≡ bits fill w ++ (septet_bits (low_septets k v) ++ more) = ap octet_bits (sym is) ∙ octets_of_word m w ∙ ap (λ (n : ℕ). bits n w) width ∙ bits-split fill (7 * k + left) w ∙ ap (λ (l : List ℕ). bits fill w ++ l) (bits-split (7 * k) left v ∙ ap (λ (l : List ℕ). l ++ more) (sym (septets_of_word k v))) in
    let whole : octet_bits octets ≡ bits fill w ++ ((septet_bits (low_septets k v) ++ more) ++ back) = ap octet_bits (sym (take-append-drop m octets)) ∙ octet_bits-append (take m octets) (drop m octets) ∙ ap (λ (l : List ℕ). l ++ back) front ∙ append_assoc (bits fill w) (septet_bits (low_septets k v) ++ more) back in
    let follows : drop fill (octet_bits octets) ≡ septet_bits (low_septets k v) ++ (more ++ back) = ap (drop fill) whole ∙ drop_at (bits fill w) ((septet_bits (low_septets k v) ++ more) ++ back) fill (length-bits fill w) ∙ append_assoc (septet_bits (low_septets k v)) more back in
    ap (septets_of (k + j)) follows ∙ septets_first (low_septets k v) (more ++ back) k j (septets-low k v) (length-low_septets k v)

-- where no bit is left over
cut_even : (fill k m j w : ℕ) (octets : List ℕ) → fill + 7 * k ≡ 8 * m → low_octets m w ≡ take m octets → septets_of (k + j) (drop fill (octet_bits octets)) ≡ low_septets k (w / 2 ^ fill) ++ septets_of j (octet_bits (drop m octets))
cut_even fill k m j w octets even is =
    let v : ℕ = w / 2 ^ fill / 2 ^ (7 * k) in
    let zero_left : 8 * m - (fill + 7 * k) ≡ 0 = omega arith in
    let nothing : bits (8 * m - (fill + 7 * k)) v ≡ [] = ap (λ (n : ℕ). bits n v) zero_left ∙ sym (none v) in
    cut fill k m j w octets (omega arith) is ∙ ap (λ (l : List ℕ). low_septets k (w / 2 ^ fill) ++ septets_of j (l ++ octet_bits (drop m octets))) nothing

no_septets_of : (bs : List ℕ) → septets_of 0 bs ≡ []
unfolding septets_of
no_septets_of bs = refl

-- where no septet is left over
pub cut_last : (fill k m w : ℕ) (octets : List ℕ) → fill + 7 * k ≤ 8 * m → low_octets m w ≡ take m octets → septets_of k (drop fill (octet_bits octets)) ≡ low_septets k (w / 2 ^ fill)
cut_last fill k m w octets enough is =
    let sum : k ≡ k + 0 = omega arith in
    ap (λ (n : ℕ). septets_of n (drop fill (octet_bits octets))) sum ∙ cut fill k m 0 w octets enough is ∙ ap (λ (l : List ℕ). low_septets k (w / 2 ^ fill) ++ l) (no_septets_of _) ∙ append-nil (low_septets k (w / 2 ^ fill))

abbrev Begins : ℕ → ℕ → List ℕ → ℕ → ℕ → ℕ → List ℕ → Type 0
Begins fill count octets w n begun items = items ++ septets_of (count - begun) (octet_bits (drop n octets)) ≡ septets_of count (drop fill (octet_bits octets))

begins_whole : (fill count w : ℕ) (octets items : List ℕ) → fill ≤ count → low_octets fill w ≡ take fill octets → items ≡ low_septets fill (w / 2 ^ fill) → Begins fill count octets w fill fill items
begins_whole fill count w octets items le is e =
    let sum : fill + (count - fill) ≡ count = omega arith in
    ap (λ (l : List ℕ). l ++ septets_of (count - fill) (octet_bits (drop fill octets))) e ∙ sym (cut_even fill fill fill (count - fill) w octets (omega arith) is) ∙ ap (λ (n : ℕ). septets_of n (drop fill (octet_bits octets))) sum

begins_few : (fill count n w : ℕ) (octets items : List ℕ) → fill + 7 * count ≤ 8 * n → low_octets n w ≡ take n octets → items ≡ low_septets count (w / 2 ^ fill) → Begins fill count octets w n count items
begins_few fill count n w octets items enough is e =
    let none_left : count - count ≡ 0 = omega arith in
    ap (λ (m : ℕ). items ++ septets_of m (octet_bits (drop n octets))) none_left ∙ ap (λ (l : List ℕ). items ++ l) (no_septets_of _) ∙ append-nil items ∙ e ∙ sym (cut_last fill count n w octets enough is)

begins : (fill count w : ℕ) (octets items : List ℕ) (n begun : ℕ) (b : (fill ≤ count) ⊎ (count < fill)) → fill < 7 → fill + 7 * count ≤ 8 * length octets → n ≡ min (length octets) fill → begun ≡ min count fill → low_octets n w ≡ take n octets → items ≡ low_septets begun (w / 2 ^ fill) → Begins fill count octets w n begun items
begins fill count w octets items n begun (inl le) small enough cut_at is spelled e =
    let n_is : n ≡ fill = omega arith in
    let begun_is : begun ≡ fill = omega arith in
    let spelled_fill : low_octets fill w ≡ take fill octets = subst (λ (m : ℕ). low_octets m w ≡ take m octets) n_is spelled in
    let whole = begins_whole fill count w octets items le spelled_fill (e ∙ ap (λ (m : ℕ). low_septets m (w / 2 ^ fill)) begun_is) in
    subst (λ (m : ℕ). Begins fill count octets w m begun items) (sym n_is) (subst (λ (m : ℕ). Begins fill count octets w fill m items) (sym begun_is) whole)
begins fill count w octets items n begun (inr lt) small enough cut_at is spelled e =
    let begun_is : begun ≡ count = omega arith in
    let room : fill + 7 * count ≤ 8 * n = omega arith in
    let few = begins_few fill count n w octets items room spelled (e ∙ ap (λ (m : ℕ). low_septets m (w / 2 ^ fill)) begun_is) in
    subst (λ (m : ℕ). Begins fill count octets w n m items) (sym begun_is) few

which : (a b : ℕ) → (a ≤ b) ⊎ (b < a)
which a b = go (ltb b a) refl
  where
    go : (t : Bool) → ltb b a ≡ t → (a ≤ b) ⊎ (b < a)
    go true e = inr (ltb-true b a e)
    go false e = inl (ltb-false b a e)

pub head_unpacked : (fill count w n begun : ℕ) (octets first rest old items : List ℕ) → fill < 7 → fill + 7 * count ≤ 8 * length octets → n ≡ min (length octets) fill → begun ≡ min count fill → first ≡ take n octets → rest ≡ drop n octets → low_octets (length first) w ≡ first → old ≡ [] → items ≡ old ++ low_septets begun (w / 2 ^ fill) → items ++ septets_of (count - begun) (octet_bits rest) ≡ septets_of count (drop fill (octet_bits octets))
head_unpacked fill count w n begun octets first rest old items small enough cut_at is front back spelled fresh e =
    let len : length first ≡ n = ap length front ∙ length-take-le n octets (omega arith) in
    let taken : low_octets n w ≡ take n octets = ap (λ (m : ℕ). low_octets m w) (sym len) ∙ spelled ∙ front in
    ap (λ (l : List ℕ). items ++ septets_of (count - begun) (octet_bits l)) back ∙ begins fill count w octets items n begun (which fill count) small enough cut_at is taken (e ∙ ap (λ (l : List ℕ). l ++ low_septets begun (w / 2 ^ fill)) fresh)

pub seven_taken : (xs : List ℕ) → 7 ≤ length xs → first_seven xs ≡ take 7 xs
seven_taken xs many = sym (ap (take 7) (seven_then xs many) ∙ take_at (first_seven xs) (drop 7 xs) 7 refl)

pub eight_taken : (xs : List ℕ) → 8 ≤ length xs → first_eight xs ≡ take 8 xs
eight_taken xs many = sym (ap (take 8) (eight_then xs many) ∙ take_at (first_eight xs) (drop 8 xs) 8 refl)

pub block_unpacked : (rest others old new : List ℕ) (w left : ℕ) (total : List ℕ) → 8 ≤ left → low_octets 7 w ≡ take 7 rest → others ≡ drop 7 rest → new ≡ old ++ low_septets 8 w → old ++ septets_of left (octet_bits rest) ≡ total → new ++ septets_of (left - 8) (octet_bits others) ≡ total
block_unpacked rest others old new w left total big is after e so_far =
    let sum : 8 + (left - 8) ≡ left = omega arith in
    let same : w / 2 ^ 0 ≡ w = omega arith in
    let follows : List ℕ = septets_of (left - 8) (octet_bits (drop 7 rest)) in
    let block : septets_of (8 + (left - 8)) (octet_bits rest) ≡ low_septets 8 w ++ follows = cut_even 0 8 7 (left - 8) w rest (omega arith) is ∙ ap (λ (x : ℕ). low_septets 8 x ++ follows) same in
    ap (λ (l : List ℕ). new ++ septets_of (left - 8) (octet_bits l)) after ∙ ap (λ (l : List ℕ). l ++ follows) e ∙ append_assoc old (low_septets 8 w) follows ∙ ap (λ (l : List ℕ). old ++ l) (sym block ∙ ap (λ (n : ℕ). septets_of n (octet_bits rest)) sum) ∙ so_far

pub last_unpacked : (rest last old new : List ℕ) (w left : ℕ) (total : List ℕ) → left ≤ length rest → last ≡ take left rest → low_octets (length last) w ≡ last → new ≡ old ++ low_septets left w → old ++ septets_of left (octet_bits rest) ≡ total → new ≡ total
last_unpacked rest last old new w left total enough front spelled e so_far =
    let len : length last ≡ left = ap length front ∙ length-take-le left rest enough in
    let taken : low_octets left w ≡ take left rest = ap (λ (m : ℕ). low_octets m w) (sym len) ∙ spelled ∙ front in
    let same : w / 2 ^ 0 ≡ w = omega arith in
    let end : septets_of left (octet_bits rest) ≡ low_septets left w = cut_last 0 left left w rest (omega arith) taken ∙ ap (low_septets left) same in
    e ∙ ap (λ (l : List ℕ). old ++ l) (sym end) ∙ so_far

reads_taken : (n : ℕ) (xs : List ℕ) → ((k : ℕ) → get_or xs k 0 < 256) → (k : ℕ) → get_or (take n xs) k 0 < 256
reads_taken zero xs small k = omega arith
reads_taken (suc n) [] small k = omega arith
reads_taken (suc n) (x ∷ xs) small zero = small 0
reads_taken (suc n) (x ∷ xs) small (suc k) = reads_taken n xs (λ (i : ℕ). small (suc i)) k

pub word_of_chunk : (xs block : List ℕ) (w : ℕ) → 8 ≤ length xs → block ≡ take 8 xs → ((k : ℕ) → get_or xs k 0 < 256) → w ≡ get_or block 0 0 + 256 * get_or block 1 0 + 65536 * get_or block 2 0 + 16777216 * get_or block 3 0 + 4294967296 * get_or block 4 0 + 1099511627776 * get_or block 5 0 + 281474976710656 * get_or block 6 0 + 72057594037927936 * get_or block 7 0 → low_octets 7 w ≡ take 7 xs
word_of_chunk xs block w many same small is =
    let len : length block ≡ 8 = ap length same ∙ length-take-le 8 xs many in
    let few : (k : ℕ) → get_or block k 0 < 256 = subst (λ (l : List ℕ). (k : ℕ) → get_or l k 0 < 256) (sym same) (reads_taken 8 xs small) in
    word_of_eight_octets block w (get_or block 7 0) few is ∙ seven_taken block (omega arith) ∙ ap (take 7) same ∙ take-take 7 8 xs (omega arith)

pub word_of_last : (xs : List ℕ) (w : ℕ) → 7 ≤ length xs → ((k : ℕ) → get_or xs k 0 < 256) → w ≡ get_or xs 0 0 + 256 * get_or xs 1 0 + 65536 * get_or xs 2 0 + 16777216 * get_or xs 3 0 + 4294967296 * get_or xs 4 0 + 1099511627776 * get_or xs 5 0 + 281474976710656 * get_or xs 6 0 → low_octets 7 w ≡ take 7 xs
word_of_last xs w many small is = word_of_eight_octets xs w 0 small (omega (arith, is)) ∙ seven_taken xs many

pub no_block : (old bs : List ℕ) (n : ℕ) (total : List ℕ) → n ≡ 0 → old ++ septets_of n bs ≡ total → old ≡ total
no_block old bs n total none_left so_far = sym (append-nil old) ∙ ap (λ (l : List ℕ). old ++ l) (sym (no_septets_of bs)) ∙ ap (λ (m : ℕ). old ++ septets_of m bs) (sym none_left) ∙ so_far

septets_of-add : (m n : ℕ) (bs : List ℕ) → septets_of (m + n) bs ≡ septets_of m bs ++ septets_of n (drop (7 * m) bs)
unfolding septets_of
septets_of-add zero n bs = let z : 0 + n ≡ n = omega arith in let d : 7 * 0 ≡ 0 = omega arith in ap (λ (k : ℕ). septets_of k bs) z ∙ ap (λ (k : ℕ). septets_of n (drop k bs)) (sym d)
septets_of-add (suc m) n bs =
    let sum : suc m + n ≡ suc (m + n) = omega arith in
    let width : 7 + 7 * m ≡ 7 * suc m = omega arith in
    ap (λ (k : ℕ). septets_of k bs) sum ∙ ap (λ (l : List ℕ). from_bits (take 7 bs) ∷ l) (septets_of-add m n (drop 7 bs)) ∙ ap (λ (l : List ℕ). from_bits (take 7 bs) ∷ (septets_of m (drop 7 bs) ++ septets_of n l)) (drop-drop (7 * m) 7 bs ∙ ap (λ (k : ℕ). drop k bs) width)

drop_octets : (k : ℕ) (xs : List ℕ) → k ≤ length xs → drop (8 * k) (octet_bits xs) ≡ octet_bits (drop k xs)
drop_octets k xs enough =
    let len : length (octet_bits (take k xs)) ≡ 8 * k = length-octet_bits (take k xs) ∙ ap (λ (n : ℕ). 8 * n) (length-take-le k xs enough) in
    ap (drop (8 * k)) (ap octet_bits (sym (take-append-drop k xs)) ∙ octet_bits-append (take k xs) (drop k xs)) ∙ drop_at (octet_bits (take k xs)) (octet_bits (drop k xs)) (8 * k) len

pub blocks_unpacked : (rest others old new : List ℕ) (blocks left all : ℕ) (total : List ℕ) → all ≡ 8 * blocks + left → 7 * blocks ≤ length rest → others ≡ drop (7 * blocks) rest → new ≡ old ++ septets_of (8 * blocks) (octet_bits rest) → old ++ septets_of all (octet_bits rest) ≡ total → new ++ septets_of left (octet_bits others) ≡ total
blocks_unpacked rest others old new blocks left all total sum enough after e so_far =
    let front : List ℕ = septets_of (8 * blocks) (octet_bits rest) in
    let width : 7 * (8 * blocks) ≡ 8 * (7 * blocks) = omega arith in
    let back : drop (7 * (8 * blocks)) (octet_bits rest) ≡ octet_bits others = ap (λ (k : ℕ). drop k (octet_bits rest)) width ∙ drop_octets (7 * blocks) rest enough ∙ ap octet_bits (sym after) in
    let whole : septets_of all (octet_bits rest) ≡ front ++ septets_of left (octet_bits others) = ap (λ (k : ℕ). septets_of k (octet_bits rest)) sum ∙ septets_of-add (8 * blocks) left (octet_bits rest) ∙ ap (λ (l : List ℕ). front ++ septets_of left l) back in
    ap (λ (l : List ℕ). l ++ septets_of left (octet_bits others)) e ∙ append_assoc old front (septets_of left (octet_bits others)) ∙ ap (λ (l : List ℕ). old ++ l) (sym whole) ∙ so_far
