-- A reader may pass this by: lemmas, for the proofs of this crate and of those above it.
--
-- Laws of packed septets: how many octets they take, and that they are unpacked.
use Rattle.std.proofs.Common.{◌≡◌, ℕ, zero, suc, ◌+◌, ◌*◌, ◌/◌, ◌^◌, ◌<◌, ◌≤◌, List, [], ◌∷◌, ◌++◌, length, take, drop, replicate, get_or, refl, sym, ap, subst, ◌∙◌, append_assoc, arith, length-append}
use Rattle.std.proofs.Math.Nat.{pow-succ', pow-le-pow_right}
use Rattle.std.proofs.lemmas.List.{drop-drop, take_at, drop_at, length-take, length-replicate}
use Rattle.std.specs.List.{AllByRecursion}
use Rattle.sms_text.specs.Bits.{bits, from_bits, octet_bits, septet_bits, septets_of, unpacked, Packed, PackedPlain, AreSeptets}

pub length-bits : (w n : ℕ) → length (bits w n) ≡ w
unfolding bits
length-bits zero n = refl
length-bits (suc w) n = ap suc (length-bits w (n / 2))

pub octet_bits-cons : (o : ℕ) (rest : List ℕ) → octet_bits (o ∷ rest) ≡ bits 8 o ++ octet_bits rest
unfolding octet_bits
octet_bits-cons o rest = refl

-- ---- how many bits

no_octets : length (octet_bits []) ≡ 8 * 0
unfolding octet_bits
no_octets = refl

pub length-octet_bits : (xs : List ℕ) → length (octet_bits xs) ≡ 8 * length xs
length-octet_bits [] = no_octets
length-octet_bits (x ∷ xs) = ap length (octet_bits-cons x xs) ∙ length-append (bits 8 x) (octet_bits xs) ∙ omega (arith, length-bits 8 x, length-octet_bits xs)

pub from_bits-bits : (w n : ℕ) → n < 2 ^ w → from_bits (bits w n) ≡ n
unfolding from_bits bits
from_bits-bits zero n h = omega (arith, h)
from_bits-bits (suc w) n h =
    let e : 2 ^ suc w ≡ 2 * 2 ^ w = pow-succ' 2 w in
    let rest = from_bits-bits w (n / 2) (omega arith) in
    omega (arith, rest)

-- ---- what is packed is unpacked

pub septet_bits-cons : (s : ℕ) (rest : List ℕ) → septet_bits (s ∷ rest) ≡ bits 7 s ++ septet_bits rest
unfolding septet_bits
septet_bits-cons s rest = refl

septets_again : (septets back : List ℕ) → AreSeptets septets → septets_of (length septets) (septet_bits septets ++ back) ≡ septets
unfolding septets_of
septets_again [] back fits = refl
septets_again (s ∷ rest) back fits =
    let whole : septet_bits (s ∷ rest) ++ back ≡ bits 7 s ++ (septet_bits rest ++ back) = ap (λ (l : List ℕ). l ++ back) (septet_bits-cons s rest) ∙ append_assoc (bits 7 s) (septet_bits rest) back in
    let first : from_bits (take 7 (septet_bits (s ∷ rest) ++ back)) ≡ s = ap (λ (l : List ℕ). from_bits (take 7 l)) whole ∙ ap from_bits (take_at (bits 7 s) (septet_bits rest ++ back) 7 (length-bits 7 s)) ∙ from_bits-bits 7 s fits.0 in
    let others : drop 7 (septet_bits (s ∷ rest) ++ back) ≡ septet_bits rest ++ back = ap (drop 7) whole ∙ drop_at (bits 7 s) (septet_bits rest ++ back) 7 (length-bits 7 s) in
    ap (λ (x : ℕ). x ∷ septets_of (length rest) (drop 7 (septet_bits (s ∷ rest) ++ back))) first ∙ ap (λ (l : List ℕ). s ∷ septets_of (length rest) l) others ∙ ap (λ (l : List ℕ). s ∷ l) (septets_again rest back fits.1)

pub unpacked-packed : (fill : ℕ) (septets octets : List ℕ) → AreSeptets septets → Packed fill septets octets → unpacked fill (length septets) octets ≡ septets
unfolding unpacked
unpacked-packed fill septets octets fits p =
    ap (λ (l : List ℕ). septets_of (length septets) (drop fill l)) (p.parts ∙ append_assoc p.front (septet_bits septets) p.back) ∙ ap (septets_of (length septets)) (drop_at p.front (septet_bits septets ++ p.back) fill p.filled) ∙ septets_again septets p.back fits

none : length (septet_bits []) ≡ 7 * 0
unfolding septet_bits
none = refl

pub length-septet_bits : (xs : List ℕ) → length (septet_bits xs) ≡ 7 * length xs
length-septet_bits [] = none
length-septet_bits (x ∷ xs) = ap length (septet_bits-cons x xs) ∙ length-append (bits 7 x) (septet_bits xs) ∙ omega (arith, length-bits 7 x, length-septet_bits xs)

pub enough : (fill : ℕ) (septets octets : List ℕ) → Packed fill septets octets → fill + 7 * length septets ≤ 8 * length octets
enough fill septets octets p =
    omega (arith, p.filled, ap length p.parts, length-octet_bits octets, length-append (p.front ++ septet_bits septets) p.back, length-append p.front (septet_bits septets), length-septet_bits septets)

-- as many octets as the bits need
pub packed_octets : (fill : ℕ) (septets octets : List ℕ) → Packed fill septets octets → length octets ≡ (fill + 7 * length septets + 7) / 8
packed_octets fill septets octets p =
    omega (arith, p.filled, p.few, ap length p.parts, length-octet_bits octets, length-append (p.front ++ septet_bits septets) p.back, length-append p.front (septet_bits septets), length-septet_bits septets)

-- spare bits that are 0 are spare bits
pub plain_is_packed : (fill : ℕ) (septets octets : List ℕ) → PackedPlain fill septets octets → Packed fill septets octets
plain_is_packed fill septets octets p = record { front = replicate fill 0; back = replicate p.spare 0; filled = length-replicate {A = ℕ} fill 0; few = omega (arith, p.few, length-replicate {A = ℕ} p.spare 0); parts = p.parts }

-- ---- what is unpacked are septets

abbrev AreBits : List ℕ → Type 0
AreBits xs = AllByRecursion (λ bit. bit < 2) xs

bits_are : (w n : ℕ) → AreBits (bits w n)
unfolding bits
bits_are zero n = tt
bits_are (suc w) n = (omega arith, bits_are w (n / 2))

bits-append : (xs ys : List ℕ) → AreBits xs → AreBits ys → AreBits (xs ++ ys)
bits-append [] ys p q = q
bits-append (x ∷ xs) ys p q = (p.0, bits-append xs ys p.1 q)

no_bits_are : AreBits (octet_bits [])
unfolding octet_bits
no_bits_are = tt

octet_bits_are : (xs : List ℕ) → AreBits (octet_bits xs)
octet_bits_are [] = no_bits_are
octet_bits_are (x ∷ xs) = subst AreBits (sym (octet_bits-cons x xs)) (bits-append (bits 8 x) (octet_bits xs) (bits_are 8 x) (octet_bits_are xs))

bits-drop : (n : ℕ) (xs : List ℕ) → AreBits xs → AreBits (drop n xs)
bits-drop zero xs p = p
bits-drop (suc n) [] p = tt
bits-drop (suc n) (x ∷ xs) p = bits-drop n xs p.1

bits-take : (n : ℕ) (xs : List ℕ) → AreBits xs → AreBits (take n xs)
bits-take zero xs p = tt
bits-take (suc n) [] p = tt
bits-take (suc n) (x ∷ xs) p = (p.0, bits-take n xs p.1)

from_bits_below : (xs : List ℕ) → AreBits xs → from_bits xs < 2 ^ length xs
unfolding from_bits
from_bits_below [] p = omega arith
from_bits_below (x ∷ xs) p = let e : 2 ^ suc (length xs) ≡ 2 * 2 ^ length xs = pow-succ' 2 (length xs) in let h = from_bits_below xs p.1 in omega (arith, p.0, e, h)

septet_below : (xs : List ℕ) → AreBits xs → from_bits (take 7 xs) < 128
septet_below xs p =
    let h = from_bits_below (take 7 xs) (bits-take 7 xs p) in
    let short : length (take 7 xs) ≤ 7 = omega (arith, length-take 7 xs) in
    let two : 0 < 2 = omega arith in
    let le : 2 ^ length (take 7 xs) ≤ 2 ^ 7 = pow-le-pow_right two short in
    omega (arith, h, le)

septets_are : (n : ℕ) (xs : List ℕ) → AreBits xs → AreSeptets (septets_of n xs)
unfolding septets_of
septets_are zero xs p = tt
septets_are (suc n) xs p = (septet_below xs p, septets_are n (drop 7 xs) (bits-drop 7 xs p))

length-septets_of : (n : ℕ) (xs : List ℕ) → length (septets_of n xs) ≡ n
unfolding septets_of
length-septets_of zero xs = refl
length-septets_of (suc n) xs = ap suc (length-septets_of n (drop 7 xs))

pub unpacked_septets : (fill count : ℕ) (octets : List ℕ) → AreSeptets (unpacked fill count octets) × (length (unpacked fill count octets) ≡ count)
unfolding unpacked
unpacked_septets fill count octets = (septets_are count (drop fill (octet_bits octets)) (bits-drop fill (octet_bits octets) (octet_bits_are octets)), length-septets_of count (drop fill (octet_bits octets)))

-- ---- one of those that are unpacked

nth : (count i : ℕ) (rest : List ℕ) → i < count → get_or (septets_of count rest) i 0 ≡ from_bits (take 7 (drop (7 * i) rest))
unfolding septets_of
nth zero i rest lt = absurd (omega (arith, lt))
nth (suc count) zero rest lt = refl
nth (suc count) (suc i) rest lt =
    let size : 7 * suc i ≡ 7 + 7 * i = omega arith in
    nth count i (drop 7 rest) (omega (arith, lt)) ∙ ap (λ (l : List ℕ). from_bits (take 7 l)) (drop-drop (7 * i) 7 rest ∙ ap (λ (n : ℕ). drop n rest) (sym size))

pub septet_in : (fill count i : ℕ) (octets : List ℕ) → i < count → get_or (unpacked fill count octets) i 0 ≡ from_bits (take 7 (drop (fill + 7 * i) (octet_bits octets)))
unfolding unpacked
septet_in fill count i octets lt = nth count i (drop fill (octet_bits octets)) lt ∙ ap (λ (l : List ℕ). from_bits (take 7 l)) (drop-drop (7 * i) fill (octet_bits octets))
