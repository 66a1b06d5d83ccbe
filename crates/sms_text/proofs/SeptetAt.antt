-- One septet of many.
use Rattle.std.proofs.Common.{◌≡◌, ℕ, zero, suc, ◌+◌, ◌*◌, ◌/◌, ◌%◌, ◌≤◌, ◌^◌, List, [], ◌∷◌, ◌++◌, take, drop, get_or, refl, sym, ap, ◌∙◌, arith}
use Rattle.std.proofs.Math.Seq.{drop-nil}
use Rattle.std.proofs.lemmas.List.{drop-drop, drop_at}
use Rattle.sms_text.specs.Bits.{bits, from_bits, octet_bits, septets_of}
use Rattle.sms_text.specs.Inside.Words.{low_octets, low_septets}
use Rattle.sms_text.specs.Inside.PackingLaws.{length-bits}
use Rattle.sms_text.proofs.Words.{cut_last}

-- the bits after as many octets as given
pub drop_octets : (k : ℕ) (octets : List ℕ) → octet_bits (drop k octets) ≡ drop (8 * k) (octet_bits octets)
unfolding octet_bits
drop_octets zero octets = refl
drop_octets (suc k) [] = sym (drop-nil (8 * suc k))
drop_octets (suc k) (x ∷ xs) =
    let size : 8 * suc k ≡ 8 + 8 * k = omega arith in
    drop_octets k xs ∙ sym (ap (λ (n : ℕ). drop n (bits 8 x ++ octet_bits xs)) size ∙ sym (drop-drop (8 * k) 8 (bits 8 x ++ octet_bits xs)) ∙ ap (drop (8 * k)) (drop_at (bits 8 x) (octet_bits xs) 8 (length-bits 8 x)))

-- the bits from a place on
pub from_place : (first : ℕ) (octets : List ℕ) → drop (first % 8) (octet_bits (drop (first / 8) octets)) ≡ drop first (octet_bits octets)
from_place first octets =
    let sum : 8 * (first / 8) + first % 8 ≡ first = omega arith in
    ap (drop (first % 8)) (drop_octets (first / 8) octets) ∙ drop-drop (first % 8) (8 * (first / 8)) (octet_bits octets) ∙ ap (λ (n : ℕ). drop n (octet_bits octets)) sum

-- the septet at a place, in the word of the octets there
pub septet_there : (first word m : ℕ) (octets rest : List ℕ) → rest ≡ drop (first / 8) octets → first % 8 + 7 ≤ 8 * m → low_octets m word ≡ take m rest → (word / 2 ^ (first % 8)) % 128 ≡ from_bits (take 7 (drop first (octet_bits octets)))
unfolding septets_of low_septets
septet_there first word m octets rest is room low =
    let one : from_bits (take 7 (drop (first % 8) (octet_bits rest))) ≡ (word / 2 ^ (first % 8)) % 128 = ap (λ (l : List ℕ). get_or l 0 0) (cut_last (first % 8) 1 m word rest (omega (arith, room)) low) in
    sym one ∙ ap (λ (l : List ℕ). from_bits (take 7 (drop (first % 8) (octet_bits l)))) is ∙ ap (λ (l : List ℕ). from_bits (take 7 l)) (from_place first octets)
