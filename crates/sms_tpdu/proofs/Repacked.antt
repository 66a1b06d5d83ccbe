-- Octets pack the septets that they are unpacked to.
use Rattle.std.proofs.Common.{◌≡◌, ℕ, zero, suc, ◌+◌, ◌*◌, ◌/◌, ◌%◌, ◌<◌, ◌≤◌, List, [], ◌∷◌, ◌++◌, length, take, drop, refl, sym, ap, subst, ◌∙◌, append_assoc, arith, length-drop}
use Rattle.std.proofs.lemmas.List.{take-append-drop, length-take-le}
use Rattle.std.specs.List.{AllByRecursion}
use Rattle.sms_text.specs.Bits.{bits, from_bits, octet_bits, septet_bits, septets_of, unpacked, Packed}
use Rattle.sms_text.specs.Inside.PackingLaws.{octet_bits-cons, septet_bits-cons, length-octet_bits}

abbrev AreBits : List ℕ → Type 0
AreBits xs = AllByRecursion (λ bit. bit < 2) xs

bits_are : (w n : ℕ) → AreBits (bits w n)
unfolding bits
bits_are zero n = tt
bits_are (suc w) n = (omega arith, bits_are w (n / 2))

bits-append : (xs ys : List ℕ) → AreBits xs → AreBits ys → AreBits (xs ++ ys)
bits-append [] ys p q = q
bits-append (x ∷ xs) ys p q = (p.0, bits-append xs ys p.1 q)

no_bits_are : AreBits (octet_bits [])
unfolding octet_bits
no_bits_are = tt

octet_bits_are : (xs : List ℕ) → AreBits (octet_bits xs)
octet_bits_are [] = no_bits_are
octet_bits_are (x ∷ xs) = subst AreBits (sym (octet_bits-cons x xs)) (bits-append (bits 8 x) (octet_bits xs) (bits_are 8 x) (octet_bits_are xs))

bits-drop : (n : ℕ) (xs : List ℕ) → AreBits xs → AreBits (drop n xs)
bits-drop zero xs p = p
bits-drop (suc n) [] p = tt
bits-drop (suc n) (x ∷ xs) p = bits-drop n xs p.1

bits-take : (n : ℕ) (xs : List ℕ) → AreBits xs → AreBits (take n xs)
bits-take zero xs p = tt
bits-take (suc n) [] p = tt
bits-take (suc n) (x ∷ xs) p = (p.0, bits-take n xs p.1)

-- the bits of the value of bits are the bits
bits-from_bits : (xs : List ℕ) → AreBits xs → bits (length xs) (from_bits xs) ≡ xs
unfolding bits from_bits
bits-from_bits [] p = refl
bits-from_bits (x ∷ xs) p =
    let low : (x + 2 * from_bits xs) % 2 ≡ x = omega (arith, p.0) in
    let high : (x + 2 * from_bits xs) / 2 ≡ from_bits xs = omega (arith, p.0) in
    ap (λ (b : ℕ). b ∷ bits (length xs) ((x + 2 * from_bits xs) / 2)) low ∙ ap (λ (n : ℕ). x ∷ bits (length xs) n) high ∙ ap (λ (l : List ℕ). x ∷ l) (bits-from_bits xs p.1)

no_septets : septet_bits [] ≡ []
unfolding septet_bits
no_septets = refl

-- the bits of the first septets, and what is left
septet_bits-septets_of : (n : ℕ) (xs : List ℕ) → AreBits xs → 7 * n ≤ length xs → (back : List ℕ) × (septet_bits (septets_of n xs) ++ back ≡ xs) × (length back + 7 * n ≡ length xs)
unfolding septets_of
septet_bits-septets_of zero xs p enough = (xs, ap (λ (l : List ℕ). l ++ xs) no_septets, omega arith)
septet_bits-septets_of (suc n) xs p enough =
    let size : length (take 7 xs) ≡ 7 = length-take-le 7 xs (omega (arith, enough)) in
    let left = length-drop 7 xs in
    let rest = septet_bits-septets_of n (drop 7 xs) (bits-drop 7 xs p) (omega (arith, enough, left)) in
    let first : bits 7 (from_bits (take 7 xs)) ≡ take 7 xs = ap (λ (w : ℕ). bits w (from_bits (take 7 xs))) (sym size) ∙ bits-from_bits (take 7 xs) (bits-take 7 xs p) in
    let others : List ℕ = septets_of n (drop 7 xs) in (
      rest.0,
      ap (λ (l : List ℕ). l ++ rest.0) (septet_bits-cons (from_bits (take 7 xs)) others) ∙ append_assoc (bits 7 (from_bits (take 7 xs))) (septet_bits others) rest.0 ∙ ap (λ (l : List ℕ). l ++ (septet_bits others ++ rest.0)) first ∙ ap (λ (l : List ℕ). take 7 xs ++ l) rest.1 ∙ take-append-drop 7 xs,
      omega (arith, rest.2, left, enough),
    )

pub packed_unpacked : (fill n : ℕ) (octets : List ℕ) → fill + 7 * n ≤ 8 * length octets → 8 * length octets < fill + 7 * n + 8 → Packed fill (unpacked fill n octets) octets
unfolding unpacked
packed_unpacked fill n octets enough few =
    let all : List ℕ = octet_bits octets in
    let size : length all ≡ 8 * length octets = length-octet_bits octets in
    let left = length-drop fill all in
    let rest = septet_bits-septets_of n (drop fill all) (bits-drop fill all (octet_bits_are octets)) (omega (arith, enough, size, left)) in
    record {
      front = take fill all;
      back = rest.0;
      filled = length-take-le fill all (omega (arith, enough, size));
      few = omega (arith, rest.2, left, size, few);
      parts = sym (take-append-drop fill all) ∙ ap (λ (l : List ℕ). take fill all ++ l) (sym rest.1) ∙ sym (append_assoc (take fill all) (septet_bits (septets_of n (drop fill all))) rest.0);
    }
