-- A reader may pass this by: lemmas, for the proofs of this crate and of those above it.
--
-- The octets of a name: they are the only ones in which its septets lie plainly, and they are read
-- as it.
use Rattle.std.proofs.Common.{◌≡◌, ℕ, zero, suc, ◌+◌, ◌-◌, ◌*◌, ◌/◌, ◌%◌, ◌^◌, ◌<◌, ◌≤◌, List, [], ◌∷◌, ◌++◌, length, take, drop, replicate, refl, sym, ap, subst, ◌∙◌, arith, length-append}
use Rattle.std.specs.List.{AllByRecursion}
use Rattle.std.proofs.Math.Nat.{pow-succ', pow-le-pow_right}
use Rattle.std.proofs.Math.Seq.{take-add, take-append-add, take_at, drop_at}
use Rattle.std.proofs.lemmas.List.{append-nil, length-take, length-drop, length-replicate, take-replicate}
use Rattle.sms_text.specs.Bits.{bits, from_bits, octet_bits, septet_bits, AreSeptets, PackedPlain, unpacked}
use Rattle.sms_text.specs.Octets.{IsOctets}
use Rattle.sms_text.specs.Inside.PackingLaws.{length-bits, from_bits-bits, length-octet_bits, length-septet_bits, plain_is_packed, unpacked-packed, unpacked_septets}
use Rattle.sms_field.specs.Address.NameOctets.{IsName, name, octets_from, name_octets, name_length}

abbrev AreBits : List ℕ → Type 0
AreBits xs = AllByRecursion (λ bit. bit < 2) xs

bits_are : (w n : ℕ) → AreBits (bits w n)
unfolding bits
bits_are zero n = tt
bits_are (suc w) n = (omega arith, bits_are w (n / 2))

bits-append : (xs ys : List ℕ) → AreBits xs → AreBits ys → AreBits (xs ++ ys)
bits-append [] ys p q = q
bits-append (x ∷ xs) ys p q = (p.0, bits-append xs ys p.1 q)

septet_bits_are : (xs : List ℕ) → AreBits (septet_bits xs)
unfolding septet_bits
septet_bits_are [] = tt
septet_bits_are (x ∷ xs) = bits-append (bits 7 x) (septet_bits xs) (bits_are 7 x) (septet_bits_are xs)

zeros_are : (n : ℕ) → AreBits (replicate n 0)
zeros_are zero = tt
zeros_are (suc n) = (omega arith, zeros_are n)

bits-take : (n : ℕ) (xs : List ℕ) → AreBits xs → AreBits (take n xs)
bits-take zero xs p = tt
bits-take (suc n) [] p = tt
bits-take (suc n) (x ∷ xs) p = (p.0, bits-take n xs p.1)

bits-drop : (n : ℕ) (xs : List ℕ) → AreBits xs → AreBits (drop n xs)
bits-drop zero xs p = p
bits-drop (suc n) [] p = tt
bits-drop (suc n) (x ∷ xs) p = bits-drop n xs p.1

from_bits_below : (xs : List ℕ) → AreBits xs → from_bits xs < 2 ^ length xs
unfolding from_bits
from_bits_below [] p = omega arith
from_bits_below (x ∷ xs) p = let e : 2 ^ suc (length xs) ≡ 2 * 2 ^ length xs = pow-succ' 2 (length xs) in let h = from_bits_below xs p.1 in omega (arith, p.0, e, h)

bits-from_bits : (xs : List ℕ) → AreBits xs → bits (length xs) (from_bits xs) ≡ xs
unfolding bits from_bits
bits-from_bits [] p = refl
bits-from_bits (x ∷ xs) p =
    let low : (x + 2 * from_bits xs) % 2 ≡ x = omega (arith, p.0) in
    let high : (x + 2 * from_bits xs) / 2 ≡ from_bits xs = omega (arith, p.0) in
    rw (low, high) (ap (λ (l : List ℕ). x ∷ l) (bits-from_bits xs p.1))

-- ---- octets taken from bits

octet_below : (xs : List ℕ) → AreBits xs → from_bits (take 8 xs) < 256
octet_below xs p =
    let h = from_bits_below (take 8 xs) (bits-take 8 xs p) in
    let short : length (take 8 xs) ≤ 8 = omega (arith, length-take 8 xs) in
    let two : 0 < 2 = omega arith in
    let le : 2 ^ length (take 8 xs) ≤ 2 ^ 8 = pow-le-pow_right two short in
    omega (arith, h, le)

from_are_octets : (k : ℕ) (xs : List ℕ) → AreBits xs → IsOctets (octets_from k xs)
unfolding octets_from
from_are_octets zero xs p = tt
from_are_octets (suc k) xs p = (octet_below xs p, from_are_octets k (drop 8 xs) (bits-drop 8 xs p))

length-octets_from : (k : ℕ) (xs : List ℕ) → length (octets_from k xs) ≡ k
unfolding octets_from
length-octets_from zero xs = refl
length-octets_from (suc k) xs = ap suc (length-octets_from k (drop 8 xs))

octet_bits-cons : (o : ℕ) (rest : List ℕ) → octet_bits (o ∷ rest) ≡ bits 8 o ++ octet_bits rest
unfolding octet_bits
octet_bits-cons o rest = refl

octet_bits-nil : octet_bits [] ≡ []
unfolding octet_bits
octet_bits-nil = refl

bits_of_octets : (k : ℕ) (xs : List ℕ) → 8 * k ≤ length xs → AreBits xs → octet_bits (octets_from k xs) ≡ take (8 * k) xs
unfolding octets_from
bits_of_octets zero xs le p = octet_bits-nil
bits_of_octets (suc k) xs le p =
    let eight : length (take 8 xs) ≡ 8 = omega (arith, length-take 8 xs) in
    let first : bits 8 (from_bits (take 8 xs)) ≡ take 8 xs = ap (λ (w : ℕ). bits w (from_bits (take 8 xs))) (sym eight) ∙ bits-from_bits (take 8 xs) (bits-take 8 xs p) in
    let rest : octet_bits (octets_from k (drop 8 xs)) ≡ take (8 * k) (drop 8 xs) = bits_of_octets k (drop 8 xs) (omega (arith, length-drop 8 xs)) (bits-drop 8 xs p) in
    let sum : 8 * suc k ≡ 8 + 8 * k = omega arith in
    octet_bits-cons (from_bits (take 8 xs)) (octets_from k (drop 8 xs)) ∙ ap (λ (l : List ℕ). l ++ octet_bits (octets_from k (drop 8 xs))) first ∙ ap (λ (l : List ℕ). take 8 xs ++ l) rest ∙ sym (ap (λ (n : ℕ). take n xs) sum ∙ take-add 8 (8 * k) xs)

-- octets with the same bits are the same
same_octets : (xs ys : List ℕ) → IsOctets xs → IsOctets ys → octet_bits xs ≡ octet_bits ys → xs ≡ ys
same_octets [] [] p q e = refl
same_octets [] (y ∷ ys) p q e = absurd (omega (arith, length-octet_bits [], length-octet_bits (y ∷ ys), ap length e))
same_octets (x ∷ xs) [] p q e = absurd (omega (arith, length-octet_bits [], length-octet_bits (x ∷ xs), ap length e))
same_octets (x ∷ xs) (y ∷ ys) p q e =
    let whole : bits 8 x ++ octet_bits xs ≡ bits 8 y ++ octet_bits ys = sym (octet_bits-cons x xs) ∙ e ∙ octet_bits-cons y ys in
    let first : bits 8 x ≡ bits 8 y = sym (take_at (bits 8 x) (octet_bits xs) 8 (length-bits 8 x)) ∙ ap (take 8) whole ∙ take_at (bits 8 y) (octet_bits ys) 8 (length-bits 8 y) in
    let rest : octet_bits xs ≡ octet_bits ys = sym (drop_at (bits 8 x) (octet_bits xs) 8 (length-bits 8 x)) ∙ ap (drop 8) whole ∙ drop_at (bits 8 y) (octet_bits ys) 8 (length-bits 8 y) in
    let head : x ≡ y = sym (from_bits-bits 8 x p.0) ∙ ap from_bits first ∙ from_bits-bits 8 y q.0 in
    ap (λ (n : ℕ). n ∷ xs) head ∙ ap (λ (l : List ℕ). y ∷ l) (same_octets xs ys p.1 q.1 rest)

-- ---- the octets of a name

padded : List ℕ → List ℕ
padded septets = septet_bits septets ++ replicate 7 0

length-padded : (septets : List ℕ) → length (padded septets) ≡ 7 * length septets + 7
unfolding padded
length-padded septets = length-append (septet_bits septets) (replicate 7 0) ∙ omega (arith, length-septet_bits septets, length-replicate {A = ℕ} 7 0)

padded_are : (septets : List ℕ) → AreBits (padded septets)
unfolding padded
padded_are septets = bits-append (septet_bits septets) (replicate 7 0) (septet_bits_are septets) (zeros_are 7)

pub name_octets_are : (septets : List ℕ) → IsOctets (name_octets septets)
unfolding name_octets padded
name_octets_are septets = from_are_octets ((7 * length septets + 7) / 8) (padded septets) (padded_are septets)

pub length-name_octets : (septets : List ℕ) → length (name_octets septets) ≡ (7 * length septets + 7) / 8
unfolding name_octets
length-name_octets septets = length-octets_from ((7 * length septets + 7) / 8) (septet_bits septets ++ replicate 7 0)

pub name_packed : (septets : List ℕ) → PackedPlain 0 septets (name_octets septets)
unfolding name_octets padded
name_packed septets =
    let k : ℕ = (7 * length septets + 7) / 8 in
    let spare : ℕ = 8 * k - 7 * length septets in
    let enough : 8 * k ≤ length (padded septets) = omega (arith, length-padded septets) in
    let cut : 8 * k ≡ length (septet_bits septets) + spare = omega (arith, length-septet_bits septets) in
    let few : spare ≤ 7 = omega arith in
    record {
      spare = spare;
      few = omega (arith, few);
      parts = bits_of_octets k (padded septets) enough (padded_are septets) ∙ ap (λ (n : ℕ). take n (padded septets)) cut ∙ take-append-add (septet_bits septets) (replicate 7 0) spare ∙ ap (λ (l : List ℕ). septet_bits septets ++ l) (take-replicate {X = ℕ} spare 7 0 few);
    }

pub only_name_octets : (septets octets : List ℕ) → IsOctets octets → PackedPlain 0 septets octets → octets ≡ name_octets septets
only_name_octets septets octets are p =
    let q = name_packed septets in
    let here : 8 * length octets ≡ 7 * length septets + p.spare = omega (arith, ap length p.parts, length-octet_bits octets, length-append (septet_bits septets) (replicate p.spare 0), length-septet_bits septets, length-replicate {A = ℕ} p.spare 0) in
    let there : 8 * length (name_octets septets) ≡ 7 * length septets + q.spare = omega (arith, ap length q.parts, length-octet_bits (name_octets septets), length-append (septet_bits septets) (replicate q.spare 0), length-septet_bits septets, length-replicate {A = ℕ} q.spare 0) in
    let same : p.spare ≡ q.spare = omega (arith, p.few, q.few, here, there) in
    same_octets octets (name_octets septets) are (name_octets_are septets) (p.parts ∙ ap (λ (n : ℕ). septet_bits septets ++ replicate n 0) same ∙ sym q.parts)

-- a name is read from its octets
pub name_again : (septets rest : List ℕ) → IsName septets → (name (name_length septets)).reads septets (name_octets septets) rest
unfolding name
name_again septets rest fits =
    let octets : List ℕ = name_octets septets in
    let all : 4 * name_length septets / 7 ≡ length septets = omega arith in
    let count : (name_length septets + 1) / 2 ≡ (7 * length septets + 7) / 8 = omega arith in
    record {
      choice = octets;
      front = octets;
      back = [];
      parts = sym (append-nil octets);
      of_first = (refl, length-name_octets septets ∙ sym count);
      of_second = (sym (ap (λ (n : ℕ). unpacked 0 n octets) all ∙ unpacked-packed 0 septets octets fits.each (plain_is_packed 0 septets octets (name_packed septets))), refl);
    }

-- what is read is a name
pub name_fits : (count n : ℕ) (octets septets : List ℕ) → count ≤ 20 → n ≡ 4 * count / 7 → septets ≡ unpacked 0 n octets → IsName septets
name_fits count n octets septets le is e =
    let h = unpacked_septets 0 n octets in
    record { few = omega (arith, ap length e, h.1); each = subst AreSeptets (sym e) h.0 }

-- ---- septets after fill bits

filled : ℕ → List ℕ → List ℕ
filled fill septets = replicate fill 0 ++ septet_bits septets

length-filled : (fill : ℕ) (septets : List ℕ) → length (filled fill septets) ≡ fill + 7 * length septets
unfolding filled
length-filled fill septets = length-append (replicate fill 0) (septet_bits septets) ∙ omega (arith, length-septet_bits septets, length-replicate {A = ℕ} fill 0)

filled_are : (fill : ℕ) (septets : List ℕ) → AreBits (filled fill septets)
unfolding filled
filled_are fill septets = bits-append (replicate fill 0) (septet_bits septets) (zeros_are fill) (septet_bits_are septets)

-- octets in which septets lie plainly after fill bits
pub plain_octets : ℕ → List ℕ → List ℕ
plain_octets fill septets = octets_from ((fill + 7 * length septets + 7) / 8) (filled fill septets ++ replicate 7 0)

pub plain_octets_are : (fill : ℕ) (septets : List ℕ) → IsOctets (plain_octets fill septets)
unfolding plain_octets
plain_octets_are fill septets = from_are_octets ((fill + 7 * length septets + 7) / 8) (filled fill septets ++ replicate 7 0) (bits-append (filled fill septets) (replicate 7 0) (filled_are fill septets) (zeros_are 7))

pub plainly_packed : (fill : ℕ) (septets : List ℕ) → PackedPlain fill septets (plain_octets fill septets)
unfolding plain_octets filled
plainly_packed fill septets =
    let front : List ℕ = filled fill septets in
    let k : ℕ = (fill + 7 * length septets + 7) / 8 in
    let spare : ℕ = 8 * k - (fill + 7 * length septets) in
    let all : length (front ++ replicate 7 0) ≡ fill + 7 * length septets + 7 = length-append front (replicate 7 0) ∙ omega (arith, length-filled fill septets, length-replicate {A = ℕ} 7 0) in
    let enough : 8 * k ≤ length (front ++ replicate 7 0) = omega (arith, all) in
    let cut : 8 * k ≡ length front + spare = omega (arith, length-filled fill septets) in
    let few : spare ≤ 7 = omega arith in
    let are : AreBits (front ++ replicate 7 0) = bits-append front (replicate 7 0) (filled_are fill septets) (zeros_are 7) in
    record {
      spare = spare;
      few = omega (arith, few);
      parts = bits_of_octets k (front ++ replicate 7 0) enough are ∙ ap (λ (n : ℕ). take n (front ++ replicate 7 0)) cut ∙ take-append-add front (replicate 7 0) spare ∙ ap (λ (l : List ℕ). front ++ l) (take-replicate {X = ℕ} spare 7 0 few);
    }
