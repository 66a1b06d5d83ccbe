-- The septets of a name, taken from their octets one by one.
use Rattle.std.proofs.Common.{◌≡◌, ℕ, zero, suc, ◌+◌, ◌*◌, List, [], ◌∷◌, ◌++◌, take, drop, refl, sym, ap, ◌∙◌, arith}
use Rattle.std.proofs.lemmas.List.{drop-drop}
use Rattle.sms_text.specs.Bits.{from_bits, octet_bits, septets_of, unpacked}

next : (n : ℕ) (rest : List ℕ) → septets_of n rest ++ from_bits (take 7 (drop (7 * n) rest)) ∷ [] ≡ septets_of (suc n) rest
unfolding septets_of
next zero rest = refl
next (suc n) rest =
    let size : 7 * suc n ≡ 7 + 7 * n = omega arith in
    let there : drop (7 * suc n) rest ≡ drop (7 * n) (drop 7 rest) = ap (λ (k : ℕ). drop k rest) size ∙ sym (drop-drop (7 * n) 7 rest) in
    ap (λ (l : List ℕ). from_bits (take 7 rest) ∷ (septets_of n (drop 7 rest) ++ from_bits (take 7 l) ∷ [])) there ∙ ap (λ (l : List ℕ). from_bits (take 7 rest) ∷ l) (next n (drop 7 rest))

pub none_held : (octets : List ℕ) → [] ≡ unpacked 0 0 octets
unfolding unpacked septets_of
none_held octets = refl

pub one_more_held : (n septet : ℕ) (octets values : List ℕ) → values ≡ unpacked 0 n octets → septet ≡ from_bits (take 7 (drop (0 + 7 * n) (octet_bits octets))) → values ++ septet ∷ [] ≡ unpacked 0 (n + 1) octets
unfolding unpacked
one_more_held n septet octets values are is = let size : n + 1 ≡ suc n = omega arith in
    let at : 0 + 7 * n ≡ 7 * n = omega arith in
    rw (size, are, is, at) (next n (octet_bits octets))
