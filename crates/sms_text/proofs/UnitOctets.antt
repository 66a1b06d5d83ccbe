-- Units in octets, the high octet first.
use Rattle.std.proofs.Common.{◌≡◌, ℕ, ◌+◌, ◌-◌, ◌*◌, ◌/◌, ◌%◌, ◌<◌, ◌≤◌, List, [], ◌∷◌, ◌++◌, length, take, drop, get_or, refl, sym, ap, ◌∙◌, append_assoc, arith}
use Rattle.std.proofs.lemmas.List.{append-nil, length-drop, at_drop_more, drop_all, take_all, take_rest, drop_more}
use Rattle.std.specs.Char.Escape.{encode_utf16}
use Rattle.sms_text.proofs.Words.{eight_then}
use Rattle.sms_text.specs.Utf16.{AreUnits, utf16_units, octets_high_first, units_high_first}

one_again : (unit : ℕ) → 256 * (unit / 256) + unit % 256 ≡ unit
one_again unit = omega arith

pub units_again : (units : List ℕ) → AreUnits units → units_high_first (octets_high_first units) ≡ units
unfolding octets_high_first units_high_first
units_again [] are = refl
units_again (unit ∷ others) are = ap (λ (n : ℕ). n ∷ units_high_first (octets_high_first others)) (one_again unit) ∙ ap (λ (l : List ℕ). unit ∷ l) (units_again others are.1)

-- ---- the loops: what is written so far, then what is left

pub one_more_character : (cs : List ℕ) (i c : ℕ) (old new total : List ℕ) → (i < length cs) × (c ≡ get_or cs i c) → new ≡ old ++ encode_utf16 c → old ++ utf16_units (drop i cs) ≡ total → new ++ utf16_units (drop (i + 1) cs) ≡ total
unfolding utf16_units
one_more_character cs i c old new total at e so_far =
    let rest : List ℕ = utf16_units (drop (i + 1) cs) in
    ap (λ (l : List ℕ). l ++ rest) e ∙ append_assoc old (encode_utf16 c) rest ∙ ap (λ (x : ℕ). old ++ (encode_utf16 x ++ rest)) at.1 ∙ ap (λ (l : List ℕ). old ++ l) (sym (at_drop_more utf16_units cs i c at.0)) ∙ so_far

pub no_character_left : (cs : List ℕ) (i : ℕ) (old total : List ℕ) → length cs ≤ i → old ++ utf16_units (drop i cs) ≡ total → old ≡ total
unfolding utf16_units
no_character_left cs i old total le so_far = sym (append-nil old) ∙ ap (λ (l : List ℕ). old ++ utf16_units l) (sym (drop_all i cs le)) ∙ so_far

pub one_more_pair : (octets : List ℕ) (old new total : List ℕ) → 2 ≤ length octets → new ≡ old ++ (256 * get_or octets 0 0 + get_or octets 1 0) ∷ [] → old ++ units_high_first octets ≡ total → new ++ units_high_first (take (length octets - 2) (drop 2 octets)) ≡ total
unfolding units_high_first
one_more_pair [] old new total many e so_far = absurd (omega arith)
one_more_pair (odd ∷ []) old new total many e so_far = absurd (omega arith)
one_more_pair (high ∷ low ∷ others) old new total many e so_far =
    ap (λ (l : List ℕ). new ++ units_high_first l) (take_all _ others (omega arith)) ∙ ap (λ (l : List ℕ). l ++ units_high_first others) e ∙ append_assoc old ((256 * high + low) ∷ []) (units_high_first others) ∙ so_far

pub no_pair_left : (octets : List ℕ) (old total : List ℕ) → length octets < 2 → old ++ units_high_first octets ≡ total → old ≡ total
unfolding units_high_first
no_pair_left [] old total few so_far = sym (append-nil old) ∙ so_far
no_pair_left (odd ∷ []) old total few so_far = sym (append-nil old) ∙ so_far
no_pair_left (high ∷ low ∷ others) old total few so_far = absurd (omega arith)

-- ---- eight units in one turn

abbrev pub octets_of_eight : List ℕ → List ℕ
octets_of_eight xs = get_or xs 0 0 / 256 ∷ get_or xs 0 0 % 256 ∷ get_or xs 1 0 / 256 ∷ get_or xs 1 0 % 256 ∷ get_or xs 2 0 / 256 ∷ get_or xs 2 0 % 256 ∷ get_or xs 3 0 / 256 ∷ get_or xs 3 0 % 256 ∷ get_or xs 4 0 / 256 ∷ get_or xs 4 0 % 256 ∷ get_or xs 5 0 / 256 ∷ get_or xs 5 0 % 256 ∷ get_or xs 6 0 / 256 ∷ get_or xs 6 0 % 256 ∷ get_or xs 7 0 / 256 ∷ get_or xs 7 0 % 256 ∷ []

eight_units : (xs : List ℕ) → 8 ≤ length xs → octets_high_first xs ≡ octets_of_eight xs ++ octets_high_first (drop 8 xs)
unfolding octets_high_first
eight_units xs many = ap octets_high_first (eight_then xs many)

pub eight_more_units : (rest old new total : List ℕ) → 8 ≤ length rest → new ≡ old ++ octets_of_eight rest → old ++ octets_high_first rest ≡ total → new ++ octets_high_first (take (length rest - 8) (drop 8 rest)) ≡ total
eight_more_units rest old new total many e so_far =
    let more : List ℕ = octets_high_first (drop 8 rest) in
    ap (λ (l : List ℕ). new ++ octets_high_first l) (take_rest rest 8) ∙ ap (λ (l : List ℕ). l ++ more) e ∙ append_assoc old (octets_of_eight rest) more ∙ ap (λ (l : List ℕ). old ++ l) (sym (eight_units rest many)) ∙ so_far

-- room for the octets of what is left, after those of eight
pub room_left : (rest : List ℕ) (old new room more : ℕ) → 8 ≤ length rest → new ≡ old + 16 → old + 2 * length rest ≤ room → room ≤ more → new + 2 * length (take (length rest - 8) (drop 8 rest)) ≤ more
room_left rest old new room more many e there grows =
    let left : length (take (length rest - 8) (drop 8 rest)) ≡ length rest - 8 = ap length (take_rest rest 8) ∙ length-drop 8 rest in
    omega arith

pub unit_more : (rest old middle new total : List ℕ) → 1 ≤ length rest → middle ≡ old ++ get_or rest 0 0 / 256 ∷ [] → new ≡ middle ++ get_or rest 0 0 % 256 ∷ [] → old ++ octets_high_first rest ≡ total → new ++ octets_high_first (take (length rest - 1) (drop 1 rest)) ≡ total
unfolding octets_high_first
unit_more [] old middle new total some high low so_far = absurd (omega arith)
unit_more (unit ∷ others) old middle new total some high low so_far =
    let more : List ℕ = octets_high_first others in
    let both : new ≡ old ++ unit / 256 ∷ unit % 256 ∷ [] = low ∙ ap (λ (l : List ℕ). l ++ unit % 256 ∷ []) high ∙ append_assoc old (unit / 256 ∷ []) (unit % 256 ∷ []) in
    ap (λ (l : List ℕ). new ++ octets_high_first l) (take_rest (unit ∷ others) 1) ∙ ap (λ (l : List ℕ). l ++ more) both ∙ append_assoc old (unit / 256 ∷ unit % 256 ∷ []) more ∙ so_far

pub unit_done : (rest old total : List ℕ) → length rest < 1 → old ++ octets_high_first rest ≡ total → old ≡ total
unfolding octets_high_first
unit_done [] old total few so_far = sym (append-nil old) ∙ so_far
unit_done (unit ∷ others) old total few so_far = absurd (omega arith)

-- ---- eight pairs in one turn

abbrev pub eight_pairs : List ℕ → List ℕ
eight_pairs xs = (256 * get_or xs 0 0 + get_or xs 1 0) ∷ (256 * get_or xs 2 0 + get_or xs 3 0) ∷ (256 * get_or xs 4 0 + get_or xs 5 0) ∷ (256 * get_or xs 6 0 + get_or xs 7 0) ∷ (256 * get_or xs 8 0 + get_or xs 9 0) ∷ (256 * get_or xs 10 0 + get_or xs 11 0) ∷ (256 * get_or xs 12 0 + get_or xs 13 0) ∷ (256 * get_or xs 14 0 + get_or xs 15 0) ∷ []

sixteen_then : (xs : List ℕ) → 16 ≤ length xs → xs ≡ get_or xs 0 0 ∷ get_or xs 1 0 ∷ get_or xs 2 0 ∷ get_or xs 3 0 ∷ get_or xs 4 0 ∷ get_or xs 5 0 ∷ get_or xs 6 0 ∷ get_or xs 7 0 ∷ get_or xs 8 0 ∷ get_or xs 9 0 ∷ get_or xs 10 0 ∷ get_or xs 11 0 ∷ get_or xs 12 0 ∷ get_or xs 13 0 ∷ get_or xs 14 0 ∷ get_or xs 15 0 ∷ drop 16 xs
sixteen_then xs many = drop_more xs 0 0 (omega arith) ∙ ap (λ (l : List ℕ). get_or xs 0 0 ∷ l) (drop_more xs 1 0 (omega arith) ∙ ap (λ (l : List ℕ). get_or xs 1 0 ∷ l) (drop_more xs 2 0 (omega arith) ∙ ap (λ (l : List ℕ). get_or xs 2 0 ∷ l) (drop_more xs 3 0 (omega arith) ∙ ap (λ (l : List ℕ). get_or xs 3 0 ∷ l) (drop_more xs 4 0 (omega arith) ∙ ap (λ (l : List ℕ). get_or xs 4 0 ∷ l) (drop_more xs 5 0 (omega arith) ∙ ap (λ (l : List ℕ). get_or xs 5 0 ∷ l) (drop_more xs 6 0 (omega arith) ∙ ap (λ (l : List ℕ). get_or xs 6 0 ∷ l) (drop_more xs 7 0 (omega arith) ∙ ap (λ (l : List ℕ). get_or xs 7 0 ∷ l) (drop_more xs 8 0 (omega arith) ∙ ap (λ (l : List ℕ). get_or xs 8 0 ∷ l) (drop_more xs 9 0 (omega arith) ∙ ap (λ (l : List ℕ). get_or xs 9 0 ∷ l) (drop_more xs 10 0 (omega arith) ∙ ap (λ (l : List ℕ). get_or xs 10 0 ∷ l) (drop_more xs 11 0 (omega arith) ∙ ap (λ (l : List ℕ). get_or xs 11 0 ∷ l) (drop_more xs 12 0 (omega arith) ∙ ap (λ (l : List ℕ). get_or xs 12 0 ∷ l) (drop_more xs 13 0 (omega arith) ∙ ap (λ (l : List ℕ). get_or xs 13 0 ∷ l) (drop_more xs 14 0 (omega arith) ∙ ap (λ (l : List ℕ). get_or xs 14 0 ∷ l) (drop_more xs 15 0 (omega arith))))))))))))))))

pairs_first : (xs : List ℕ) → 16 ≤ length xs → units_high_first xs ≡ eight_pairs xs ++ units_high_first (drop 16 xs)
unfolding units_high_first
pairs_first xs many = ap units_high_first (sixteen_then xs many)

pub eight_more_pairs : (rest old new total : List ℕ) → 16 ≤ length rest → new ≡ old ++ eight_pairs rest → old ++ units_high_first rest ≡ total → new ++ units_high_first (take (length rest - 16) (drop 16 rest)) ≡ total
eight_more_pairs rest old new total many e so_far =
    let more : List ℕ = units_high_first (drop 16 rest) in
    ap (λ (l : List ℕ). new ++ units_high_first l) (take_rest rest 16) ∙ ap (λ (l : List ℕ). l ++ more) e ∙ append_assoc old (eight_pairs rest) more ∙ ap (λ (l : List ℕ). old ++ l) (sym (pairs_first rest many)) ∙ so_far
