-- Texts of hexadecimal digits.
use Rattle.std.proofs.Common.{◌≡◌, ℕ, ◌+◌, ◌*◌, ◌/◌, ◌%◌, ◌<◌, ◌≤◌, List, [], ◌∷◌, ◌++◌, length, take, drop, get_or, slice_index, slice_set, refl, sym, ap, ◌∙◌, arith, take-take, length-take-le, append_assoc, take-add}
use Rattle.std.proofs.lemmas.List.{take_all, take_at, drop_more, take_more_set, take-append-drop, length-set}
use Rattle.std.proofs.lemmas.Simd.{length-chunk}
use lib.Lanes.{chunk}
use Rattle.hex.specs.Hex.{encode_with, encode_upper, upper_digits}
use Rattle.sms_page.specs.Inside.Place.{IsPut}
use Rattle.sms_page.proofs.Lanes.{by_lanes}

pub encode-append : (xs ys : List ℕ) → encode_upper (xs ++ ys) ≡ encode_upper xs ++ encode_upper ys
unfolding encode_with
encode-append [] ys = refl
encode-append (x ∷ xs) ys = ap (λ (l : List ℕ). slice_index upper_digits (x / 16) ∷ slice_index upper_digits (x % 16) ∷ l) (encode-append xs ys)

pub length-encode : (xs : List ℕ) → length (encode_upper xs) ≡ 2 * length xs
unfolding encode_with
length-encode [] = refl
length-encode (x ∷ xs) = omega (arith, length-encode xs)

pub encode-one : (x : ℕ) → encode_upper (x ∷ []) ≡ slice_index upper_digits (x / 16) ∷ slice_index upper_digits (x % 16) ∷ []
unfolding encode_with
encode-one x = refl

two_of : (pair : List ℕ) → length pair ≡ 2 → pair ≡ get_or pair 0 0 ∷ get_or pair 1 0 ∷ []
two_of pair two = by_lanes (λ (l : List ℕ). l) (λ (l : List ℕ). get_or l 0 0 ∷ get_or l 1 0 ∷ []) 2 pair two refl

encode-take : (k : ℕ) (xs : List ℕ) → k ≤ length xs → take (2 * k) (encode_upper xs) ≡ encode_upper (take k xs)
encode-take k xs within =
    ap (λ (l : List ℕ). take (2 * k) (encode_upper l)) (sym (take-append-drop k xs)) ∙ ap (take (2 * k)) (encode-append (take k xs) (drop k xs))
    ∙ take_at (encode_upper (take k xs)) (encode_upper (drop k xs)) (2 * k) (length-encode (take k xs) ∙ ap (λ (n : ℕ). 2 * n) (length-take-le k xs within))

-- the digits so far are those of the octets so far
abbrev pub SoFar : List ℕ → List ℕ → ℕ → Type 0
SoFar digits octets at = take (2 * at) digits ≡ encode_upper (take at octets)

pub none_so_far : (digits octets : List ℕ) → SoFar digits octets 0
unfolding encode_with
none_so_far digits octets = refl

pub less_so_far : (digits octets : List ℕ) (at less : ℕ) → less ≤ at → at ≤ length octets → SoFar digits octets at → SoFar digits octets less
less_so_far digits octets at less few within so_far =
    sym (take-take (2 * less) (2 * at) digits (omega arith)) ∙ ap (take (2 * less)) so_far
    ∙ encode-take less (take at octets) (omega (arith, length-take-le at octets within)) ∙ ap encode_upper (take-take less at octets few)

pub more_so_far : (digits new octets : List ℕ) (at n : ℕ) → at + n ≤ length octets → SoFar digits octets at
    → IsPut digits new (2 * at) (encode_upper (chunk at n octets)) → SoFar new octets (at + n)
more_so_far digits new octets at n within so_far put =
    let size = length-encode (chunk at n octets) ∙ ap (λ (k : ℕ). 2 * k) (length-chunk at n octets within) in
    let end : 2 * (at + n) ≡ 2 * at + length (encode_upper (chunk at n octets)) = omega (arith, size) in
    ap (λ (k : ℕ). take k new) end ∙ put.front ∙ ap (λ (l : List ℕ). l ++ encode_upper (chunk at n octets)) so_far
    ∙ sym (encode-append (take at octets) (chunk at n octets)) ∙ ap encode_upper (sym (take-add at n octets))

pub all_so_far : (digits octets : List ℕ) (at : ℕ) → length octets ≤ at → length digits ≡ 2 * length octets → SoFar digits octets at → digits ≡ encode_upper octets
all_so_far digits octets at end room so_far =
    sym (take_all (2 * at) digits (omega arith)) ∙ so_far ∙ ap encode_upper (take_all at octets end)

-- two digits that are written
pub two_put : (digits octets pair : List ℕ) (at : ℕ) → at < length octets → length digits ≡ 2 * length octets → pair ≡ encode_upper (get_or octets at 0 ∷ [])
    → IsPut digits (slice_set (slice_set digits (2 * at) (get_or pair 0 0)) (2 * at + 1) (get_or pair 1 0)) (2 * at) (encode_upper (chunk at 1 octets))
two_put digits octets pair at within room pair_is =
    let one : chunk at 1 octets ≡ get_or octets at 0 ∷ [] = ap (take 1) (drop_more octets at 0 within) in
    let text : encode_upper (chunk at 1 octets) ≡ pair = ap encode_upper one ∙ sym pair_is in
    let both : pair ≡ get_or pair 0 0 ∷ get_or pair 1 0 ∷ [] = two_of pair (ap length pair_is ∙ length-encode (get_or octets at 0 ∷ [])) in
    let first = slice_set digits (2 * at) (get_or pair 0 0) in
    let len = length-set digits (2 * at) (get_or pair 0 0) in
    let step : 2 * at + 2 ≡ 2 * at + 1 + 1 = omega arith in
    let size : 2 * at + length (encode_upper (chunk at 1 octets)) ≡ 2 * at + 2 = ap (λ (l : List ℕ). 2 * at + length l) (text ∙ both) in
    record {
      front = ap (λ (k : ℕ). take k (slice_set first (2 * at + 1) (get_or pair 1 0))) (size ∙ step)
          ∙ take_more_set first (2 * at + 1) (get_or pair 1 0) (omega (arith, len))
          ∙ ap (λ (l : List ℕ). l ++ get_or pair 1 0 ∷ []) (take_more_set digits (2 * at) (get_or pair 0 0) (omega arith))
          ∙ append_assoc (take (2 * at) digits) (get_or pair 0 0 ∷ []) (get_or pair 1 0 ∷ [])
          ∙ ap (λ (l : List ℕ). take (2 * at) digits ++ l) (sym both ∙ sym text);
      as_long = length-set first (2 * at + 1) (get_or pair 1 0) ∙ len;
    }
