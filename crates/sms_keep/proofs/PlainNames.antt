-- The septets of a name are written as the octets that they are read from, where all other bits
-- are 0.
use Rattle.std.proofs.Common.{◌≡◌, ℕ, zero, suc, ◌+◌, ◌-◌, ◌*◌, ◌/◌, ◌%◌, ◌^◌, ◌<◌, ◌≤◌, ◌⊎◌, inl, inr, List, [], ◌∷◌, ◌++◌, length, take, drop, replicate, slice_index, refl, sym, ap, subst, ◌∙◌, length-append, arith}
use Rattle.std.proofs.Math.Nat.{pow-succ'}
use Rattle.std.proofs.lemmas.Nat.{shr_below, le-div, pow_pos}
use Rattle.std.proofs.lemmas.Bool.{cases_lt}
use Rattle.std.proofs.Math.Seq.{take-add}
use Rattle.std.specs.List.{AllByRecursion}
use Rattle.std.proofs.lemmas.List.{append-nil, take_at, drop_at, drop-drop, drop_all, take-append-drop, length-take, length-drop, length-replicate}
use Rattle.sms_text.specs.Bits.{bits, from_bits, octet_bits, septet_bits, septets_of, unpacked, PackedPlain}
use Rattle.sms_text.specs.Octets.{IsOctets}
use Rattle.sms_text.specs.Inside.PackingLaws.{length-bits, from_bits-bits, length-octet_bits, length-septet_bits, octet_bits-cons, septet_bits-cons, unpacked_septets}
use Rattle.sms_field.specs.Address.NameOctets.{name_octets}
use Rattle.sms_field.specs.Inside.NameSpelling.{name_packed, only_name_octets, name_octets_are, length-name_octets}

abbrev AreBits : List ℕ → Type 0
AreBits xs = AllByRecursion (λ bit. bit < 2) xs

-- all bits after the septets are 0
abbrev pub IsClear : ℕ → List ℕ → Type 0
IsClear count octets = (count % 8 ≡ 0) ⊎ (slice_index octets (7 * count / 8) / 2 ^ (8 - count % 8) ≡ 0)

none_above : (r n : ℕ) → n < 2 ^ r → n / 2 ^ r ≡ 0
none_above r n l =
    let z : r ≡ 0 + r = omega arith in
    let h : n / 2 ^ r < 2 ^ 0 = shr_below n 0 r (subst (λ (k : ℕ). n < 2 ^ k) z l) in
    omega (arith, h)

below_since : (r n : ℕ) → n / 2 ^ r ≡ 0 → n < 2 ^ r
below_since r n e = by (cases_lt n (2 ^ r)) where
  by : (n < 2 ^ r) ⊎ (2 ^ r ≤ n) → n < 2 ^ r
  by (inl h) = h
  by (inr h) = let l : 1 ≤ n / 2 ^ r = le-div 1 n (2 ^ r) (pow_pos r) (omega (arith, h)) in absurd (omega (arith, l, e))

-- ---- the bits of an octet

no_bits : (w : ℕ) → bits w 0 ≡ replicate w 0
unfolding bits
no_bits zero = refl
no_bits (suc w) = ap (λ (l : List ℕ). 0 ∷ l) (no_bits w)

high_bits : (r w m n : ℕ) → m ≡ r + w → n < 2 ^ r → drop r (bits m n) ≡ replicate w 0
unfolding bits
high_bits zero w m n e l =
    let none : n ≡ 0 = omega (arith, l) in
    let same : m ≡ w = omega (arith, e) in
    ap (λ (k : ℕ). bits m k) none ∙ no_bits m ∙ ap (λ (k : ℕ). replicate k 0) same
high_bits (suc r) w zero n e l = absurd (omega (arith, e))
high_bits (suc r) w (suc m) n e l =
    let two : 2 ^ suc r ≡ 2 * 2 ^ r = pow-succ' 2 r in
    high_bits r w m (n / 2) (omega (arith, e)) (omega (arith, l, two))

from_zeros : (w : ℕ) → from_bits (replicate w 0) ≡ 0
unfolding from_bits
from_zeros zero = refl
from_zeros (suc w) = let h = from_zeros w in omega (arith, h)

low_bits : (r w m n : ℕ) → m ≡ r + w → n < 2 ^ m → drop r (bits m n) ≡ replicate w 0 → n < 2 ^ r
unfolding bits
low_bits zero w m n e l z =
    let none : n ≡ 0 = sym (from_bits-bits m n l) ∙ ap from_bits z ∙ from_zeros w in
    omega (arith, none)
low_bits (suc r) w zero n e l z = absurd (omega (arith, e))
low_bits (suc r) w (suc m) n e l z =
    let two : 2 ^ suc r ≡ 2 * 2 ^ r = pow-succ' 2 r in
    let more : 2 ^ suc m ≡ 2 * 2 ^ m = pow-succ' 2 m in
    let h = low_bits r w m (n / 2) (omega (arith, e)) (omega (arith, l, more)) z in
    omega (arith, h, two)

-- ---- those of the last octet

drop_octet : (o : ℕ) (rest : List ℕ) (n : ℕ) → drop (8 + n) (octet_bits (o ∷ rest)) ≡ drop n (octet_bits rest)
drop_octet o rest n =
    sym (drop-drop n 8 (octet_bits (o ∷ rest)))
    ∙ ap (λ (l : List ℕ). drop n l) (ap (λ (l : List ℕ). drop 8 l) (octet_bits-cons o rest) ∙ drop_at (bits 8 o) (octet_bits rest) 8 (length-bits 8 o))

next_octet : (i r o : ℕ) (rest : List ℕ) → drop (8 * suc i + r) (octet_bits (o ∷ rest)) ≡ drop (8 * i + r) (octet_bits rest)
next_octet i r o rest =
    let e : 8 * suc i + r ≡ 8 + (8 * i + r) = omega arith in
    ap (λ (n : ℕ). drop n (octet_bits (o ∷ rest))) e ∙ drop_octet o rest (8 * i + r)

one_octet : (r o : ℕ) → drop (8 * 0 + r) (octet_bits (o ∷ [])) ≡ drop r (bits 8 o)
unfolding octet_bits
one_octet r o =
    let e : 8 * 0 + r ≡ r = omega arith in
    ap (λ (n : ℕ). drop n (octet_bits (o ∷ []))) e ∙ ap (λ (l : List ℕ). drop r l) (append-nil (bits 8 o))

last_zero : (i r : ℕ) (octets : List ℕ) → r ≤ 8 → length octets ≡ suc i → slice_index octets i < 2 ^ r → drop (8 * i + r) (octet_bits octets) ≡ replicate (8 - r) 0
last_zero i r [] le e l = absurd (omega (arith, e))
last_zero zero r (o ∷ []) le e l = one_octet r o ∙ high_bits r (8 - r) 8 o (omega (arith, le)) l
last_zero zero r (o ∷ p ∷ rest) le e l = absurd (omega (arith, e))
last_zero (suc i) r (o ∷ rest) le e l = next_octet i r o rest ∙ last_zero i r rest le (omega (arith, e)) l

last_small : (i r : ℕ) (octets : List ℕ) → r ≤ 8 → length octets ≡ suc i → IsOctets octets → drop (8 * i + r) (octet_bits octets) ≡ replicate (8 - r) 0 → slice_index octets i < 2 ^ r
last_small i r [] le e fits z = absurd (omega (arith, e))
last_small zero r (o ∷ []) le e fits z = low_bits r (8 - r) 8 o (omega (arith, le)) (omega (arith, fits.0)) (sym (one_octet r o) ∙ z)
last_small zero r (o ∷ p ∷ rest) le e fits z = absurd (omega (arith, e))
last_small (suc i) r (o ∷ rest) le e fits z = last_small i r rest le (omega (arith, e)) fits.1 (sym (next_octet i r o rest) ∙ z)

-- ---- the bits of septets

bits_are : (w n : ℕ) → AreBits (bits w n)
unfolding bits
bits_are zero n = tt
bits_are (suc w) n = (omega arith, bits_are w (n / 2))

bits-append : (xs ys : List ℕ) → AreBits xs → AreBits ys → AreBits (xs ++ ys)
bits-append [] ys p q = q
bits-append (x ∷ xs) ys p q = (p.0, bits-append xs ys p.1 q)

octet_bits_are : (octets : List ℕ) → AreBits (octet_bits octets)
unfolding octet_bits
octet_bits_are [] = tt
octet_bits_are (o ∷ octets) = bits-append (bits 8 o) (octet_bits octets) (bits_are 8 o) (octet_bits_are octets)

bits-take : (n : ℕ) (xs : List ℕ) → AreBits xs → AreBits (take n xs)
bits-take zero xs p = tt
bits-take (suc n) [] p = tt
bits-take (suc n) (x ∷ xs) p = (p.0, bits-take n xs p.1)

bits-drop : (n : ℕ) (xs : List ℕ) → AreBits xs → AreBits (drop n xs)
bits-drop zero xs p = p
bits-drop (suc n) [] p = tt
bits-drop (suc n) (x ∷ xs) p = bits-drop n xs p.1

bits_back : (xs : List ℕ) → AreBits xs → bits (length xs) (from_bits xs) ≡ xs
unfolding bits from_bits
bits_back [] p = refl
bits_back (x ∷ xs) p =
    let low : (x + 2 * from_bits xs) % 2 ≡ x = omega (arith, p.0) in
    let high : (x + 2 * from_bits xs) / 2 ≡ from_bits xs = omega (arith, p.0) in
    rw (low, high) (ap (λ (l : List ℕ). x ∷ l) (bits_back xs p.1))

septets_again : (count : ℕ) (xs : List ℕ) → AreBits xs → 7 * count ≤ length xs → septet_bits (septets_of count xs) ≡ take (7 * count) xs
unfolding septets_of septet_bits
septets_again zero xs are le = refl
septets_again (suc count) xs are le =
    let seven : length (take 7 xs) ≡ 7 = omega (arith, le, length-take 7 xs) in
    let first : bits 7 (from_bits (take 7 xs)) ≡ take 7 xs = ap (λ (w : ℕ). bits w (from_bits (take 7 xs))) (sym seven) ∙ bits_back (take 7 xs) (bits-take 7 xs are) in
    let rest : septet_bits (septets_of count (drop 7 xs)) ≡ take (7 * count) (drop 7 xs) = septets_again count (drop 7 xs) (bits-drop 7 xs are) (omega (arith, le, length-drop 7 xs)) in
    let sum : 7 * suc count ≡ 7 + 7 * count = omega arith in
    septet_bits-cons (from_bits (take 7 xs)) (septets_of count (drop 7 xs))
    ∙ ap (λ (l : List ℕ). l ++ septet_bits (septets_of count (drop 7 xs))) first
    ∙ ap (λ (l : List ℕ). take 7 xs ++ l) rest
    ∙ sym (ap (λ (n : ℕ). take n xs) sum ∙ take-add 7 (7 * count) xs)

-- ---- the octets of a name

-- what is left after the septets, of as many octets as they need
zeros_whole : (count : ℕ) (octets : List ℕ) → length octets ≡ (7 * count + 7) / 8 → count % 8 ≡ 0 → drop (7 * count) (octet_bits octets) ≡ replicate (count % 8) 0
zeros_whole count octets e whole =
    let n : length (octet_bits octets) ≤ 7 * count = omega (arith, e, whole, length-octet_bits octets) in
    drop_all (7 * count) (octet_bits octets) n ∙ ap (λ (k : ℕ). replicate k 0) (sym whole)

zeros_part : (count m : ℕ) (octets : List ℕ) → count % 8 ≡ suc m → length octets ≡ (7 * count + 7) / 8 → slice_index octets (7 * count / 8) / 2 ^ (8 - count % 8) ≡ 0
    → drop (7 * count) (octet_bits octets) ≡ replicate (count % 8) 0
zeros_part count m octets part e low =
    let i : ℕ = 7 * count / 8 in
    let r : ℕ = 8 - count % 8 in
    let at : 7 * count ≡ 8 * i + r = omega (arith, part) in
    let many : length octets ≡ suc i = omega (arith, e, part) in
    let few : r ≤ 8 = omega arith in
    let left : 8 - r ≡ count % 8 = omega arith in
    ap (λ (n : ℕ). drop n (octet_bits octets)) at ∙ last_zero i r octets few many (below_since r (slice_index octets i) low) ∙ ap (λ (k : ℕ). replicate k 0) left

zeros_left : (count m : ℕ) (octets : List ℕ) → count % 8 ≡ m → length octets ≡ (7 * count + 7) / 8 → IsClear count octets → drop (7 * count) (octet_bits octets) ≡ replicate (count % 8) 0
zeros_left count m octets is e (inl whole) = zeros_whole count octets e whole
zeros_left count zero octets is e (inr low) = zeros_whole count octets e is
zeros_left count (suc m) octets is e (inr low) = zeros_part count m octets is e low

pub name_written : (count : ℕ) (octets septets : List ℕ) → length octets ≡ (7 * count + 7) / 8 → IsOctets octets → septets ≡ unpacked 0 count octets → IsClear count octets → octets ≡ name_octets septets
unfolding unpacked
name_written count octets septets e fits is clear =
    let enough : 7 * count ≤ length (octet_bits octets) = omega (arith, e, length-octet_bits octets) in
    let front : septet_bits (septets_of count (octet_bits octets)) ≡ take (7 * count) (octet_bits octets) = septets_again count (octet_bits octets) (octet_bits_are octets) enough in
    only_name_octets septets octets fits
    (record {
      spare = count % 8;
      few = omega arith;
      parts = sym (take-append-drop (7 * count) (octet_bits octets))
          ∙ ap (λ (l : List ℕ). l ++ drop (7 * count) (octet_bits octets)) (sym front)
          ∙ ap (λ (l : List ℕ). septet_bits (septets_of count (octet_bits octets)) ++ l) (zeros_left count (count % 8) octets refl e clear)
          ∙ ap (λ (l : List ℕ). septet_bits l ++ replicate (count % 8) 0) (sym is);
    })

pub written_clear : (septets : List ℕ) → IsClear (length septets) (name_octets septets)
written_clear septets = by (length septets % 8) refl where
  by : (m : ℕ) → length septets % 8 ≡ m → IsClear (length septets) (name_octets septets)
  by zero whole = inl whole
  by (suc m) part =
      let count : ℕ = length septets in
      let octets : List ℕ = name_octets septets in
      let p = name_packed septets in
      let i : ℕ = 7 * count / 8 in
      let r : ℕ = 8 - count % 8 in
      let at : 8 * i + r ≡ 7 * count = omega (arith, part) in
      let many : length octets ≡ suc i = omega (arith, part, length-name_octets septets) in
      let few : r ≤ 8 = omega arith in
      let all : 8 * length octets ≡ 7 * count + p.spare = omega (arith, ap length p.parts, length-octet_bits octets, length-append (septet_bits septets) (replicate p.spare 0), length-septet_bits septets, length-replicate {A = ℕ} p.spare 0) in
      let left : p.spare ≡ 8 - r = omega (arith, all, many, at) in
      inr (none_above r (slice_index octets i) (last_small i r octets few many (name_octets_are septets)
      (ap (λ (n : ℕ). drop n (octet_bits octets)) at
      ∙ ap (λ (l : List ℕ). drop (7 * count) l) p.parts
      ∙ drop_at (septet_bits septets) (replicate p.spare 0) (7 * count) (length-septet_bits septets)
      ∙ ap (λ (k : ℕ). replicate k 0) left)))
