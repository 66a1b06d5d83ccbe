-- Sixteen octets that are looked at together.
use Rattle.std.proofs.Common.{◌≡◌, ℕ, zero, suc, ◌+◌, ◌%◌, ◌<◌, ◌≤◌, Bool, false, not, cond, eqb, List, map, length, take, get_or, replicate, ap, subst, ◌∙◌, add-one, arith, w8}
use Rattle.std.specs.List.{prefix_len}
use Rattle.std.proofs.lemmas.Bool.{eqb-false}
use Rattle.std.proofs.lemmas.List.{length-take-le}
use lib.Count.{count_trailing_zeros}
use Rattle.std.proofs.lemmas.Simd.{bitmask_splat, trailing_mask_l, run_in_chunk_le, run_in_chunk_fails}
use lib.Lanes.{zip2, mask_l, top, chunk}
use Rattle.sms_script.specs.Lines.{HasNoLineFeed}
use Rattle.sms_script.proofs.PartLemmas.{clean_more}

abbrev is_feed : ℕ → Bool
is_feed x = eqb x 10

-- the lanes that are line feeds
abbrev pub feeds_of : List ℕ → ℕ
feeds_of octets = mask_l (map (top 7) (zip2 (λ a b. cond (eqb a b) 255 0) (take 16 octets) (replicate 16 10))) % 18446744073709551616

-- no octet before place r is a line feed
clean_to : (octets : List ℕ) (r : ℕ) → r ≤ length octets → ((k : ℕ) → 0 ≤ k → k < 0 + r → is_feed (get_or octets k 0) ≡ false) → (n : ℕ) → n ≤ r → HasNoLineFeed (take n octets)
clean_to octets r within none zero le = tt
clean_to octets r within none (suc n) le =
    subst (λ (m : ℕ). HasNoLineFeed (take m octets)) (add-one n) (clean_more octets n (omega arith) (eqb-false _ _ (none n (omega arith) (omega arith))) (clean_to octets r within none n (omega arith)))

front_clean : (octets : List ℕ) (r : ℕ) → length octets ≡ 16 → r ≡ prefix_len (λ x. not (is_feed x)) (chunk 0 16 octets) → HasNoLineFeed (take r octets)
front_clean octets r sixteen counted =
    let le = run_in_chunk_le is_feed octets 0 16 r 0 (omega (arith, sixteen)) counted in
    clean_to octets r (omega (arith, sixteen, le)) (run_in_chunk_fails is_feed octets 0 16 r 0 (omega (arith, sixteen)) counted) r (omega arith)

feeds_are : (octets : List ℕ) → length octets ≡ 16 → feeds_of octets ≡ mask_l (map is_feed (take 16 octets))
feeds_are octets sixteen = bitmask_splat w8 eqb (take 16 octets) 16 10 (length-take-le 16 octets (omega (arith, sixteen))) (omega arith)

feeds_counted : (octets : List ℕ) → length octets ≡ 16 → (feeds_of octets ≡ 0 → ⊥) → count_trailing_zeros 64 (feeds_of octets) ≡ prefix_len (λ x. not (is_feed x)) (chunk 0 16 octets)
feeds_counted octets sixteen some =
    ap (λ (n : ℕ). count_trailing_zeros 64 n) (feeds_are octets sixteen)
    ∙ trailing_mask_l is_feed 64 (take 16 octets) (omega (arith, length-take-le 16 octets (omega (arith, sixteen)))) (omega (arith, feeds_are octets sixteen, some))

pub feeds_bound : (octets : List ℕ) → length octets ≡ 16 → (feeds_of octets ≡ 0 → ⊥) → count_trailing_zeros 64 (feeds_of octets) ≤ 16
feeds_bound octets sixteen some = run_in_chunk_le is_feed octets 0 16 _ 0 (omega (arith, sixteen)) (feeds_counted octets sixteen some)

pub feeds_clean : (octets : List ℕ) → length octets ≡ 16 → (feeds_of octets ≡ 0 → ⊥) → HasNoLineFeed (take (count_trailing_zeros 64 (feeds_of octets)) octets)
feeds_clean octets sixteen some = front_clean octets _ sixteen (feeds_counted octets sixteen some)
