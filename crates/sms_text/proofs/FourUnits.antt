-- Four units of which each takes one octet or two in UTF-8, and the octets that are kept.
use Rattle.std.proofs.Common.{◌≡◌, ℕ, suc, ◌+◌, ◌-◌, ◌*◌, ◌/◌, ◌%◌, ◌^◌, ◌<◌, ◌≤◌, Bool, true, false, cond, leb, List, [], ◌∷◌, ◌++◌, length, take, drop, get_or, map, replicate, bit_and, Fits, inl, refl, sym, ap, subst, ◌∙◌, append_assoc, length-append, arith, w8}
use Rattle.std.proofs.lemmas.Bool.{leb-true, leb-false}
use Rattle.std.proofs.lemmas.Nat.{and_mask}
use Rattle.std.proofs.lemmas.List.{take_at, take-take, length-take-le, take-append-drop, take_rest}
use Rattle.std.proofs.lemmas.Str.{encodes-append, IsUtf8-append}
use Rattle.std.proofs.lemmas.Simd.{swz_l, take_more_put_chunk}
use Rattle.std.specs.Char.Utf16.{utf16_lossy_chars}
use Rattle.std.specs.Str.{IsUtf8}
use Rattle.std.proofs.Math.Utf8.{encode, encodes}
use Rattle.std.proofs.str.Laws.{one, two}
use lib.Lanes.{digits_l, number_l, top, put_chunk, pick_l, chunk, zip2, sel_l, mask_l}
use lib.Utf8.{low_scalar}
use Rattle.sms_text.specs.Utf16.{units_high_first}
use Rattle.sms_text.proofs.Ucs2Text.{text_in, whole_unit}
use Rattle.sms_text.specs.declared.four_units.TheConstants.{PLACES, COUNTS}

-- two octets of a unit, the lower one first
abbrev both_of : ℕ → ℕ
both_of u = ((u / 64 + bit_and u 63 * 256 % 65536) % 65536 + 32960) % 65536

-- the lane of a unit, by whether it takes two octets
abbrev lane : Bool → ℕ → ℕ
lane long u = cond (top 15 (cond long 65535 0)) (both_of u) u

abbrev bit : Bool → ℕ
bit long = cond (top 15 (cond long 65535 0)) 1 0

abbrev set_of : Bool → Bool → Bool → Bool → ℕ
set_of p q r s = (bit p + 2 * (bit q + 2 * (bit r + 2 * (bit s + 0)))) % 18446744073709551616

narrow : (n x y : ℕ) → x < 65536 → digits_l 256 (suc (suc n)) (x + 65536 * y) ≡ x % 256 ∷ x / 256 % 256 ∷ digits_l 256 n y
narrow n x y small =
    let e0 : (x + 65536 * y) % 256 ≡ x % 256 = omega arith in
    let e1 : (x + 65536 * y) / 256 % 256 ≡ x / 256 % 256 = omega arith in
    let e2 : (x + 65536 * y) / 256 / 256 ≡ y = omega (arith, small) in
    rw (e0, e1, e2) refl

lanes_apart : (w x y z : ℕ) → w < 65536 → x < 65536 → y < 65536 → z < 65536 → digits_l 256 16 (number_l 65536 (w ∷ x ∷ y ∷ z ∷ 0 ∷ 0 ∷ 0 ∷ 0 ∷ []))
    ≡ w % 256 ∷ w / 256 % 256 ∷ x % 256 ∷ x / 256 % 256 ∷ y % 256 ∷ y / 256 % 256 ∷ z % 256 ∷ z / 256 % 256 ∷ 0 ∷ 0 ∷ 0 ∷ 0 ∷ 0 ∷ 0 ∷ 0 ∷ 0 ∷ []
lanes_apart w x y z hw hx hy hz =
    narrow 14 w _ hw ∙ ap (λ (l : List ℕ). w % 256 ∷ w / 256 % 256 ∷ l) (narrow 12 x _ hx ∙ ap (λ (l : List ℕ). x % 256 ∷ x / 256 % 256 ∷ l) (narrow 10 y _ hy ∙ ap (λ (l : List ℕ). y % 256 ∷ y / 256 % 256 ∷ l) (narrow 8 z 0 hz)))

abbrev piece : Bool → ℕ → ℕ → List ℕ
piece true low high = low ∷ high ∷ []
piece false low high = low ∷ []

shuffled : (p q r s : Bool) (a0 a1 b0 b1 c0 c1 d0 d1 : ℕ) → take (get_or COUNTS (set_of p q r s) 0) (swz_l w8 16 (a0 ∷ a1 ∷ b0 ∷ b1 ∷ c0 ∷ c1 ∷ d0 ∷ d1 ∷ 0 ∷ 0 ∷ 0 ∷ 0 ∷ 0 ∷ 0 ∷ 0 ∷ 0 ∷ []) 0 (get_or PLACES (set_of p q r s) []))
    ≡ piece p a0 a1 ++ (piece q b0 b1 ++ (piece r c0 c1 ++ (piece s d0 d1 ++ [])))
shuffled true true true true a0 a1 b0 b1 c0 c1 d0 d1 = refl
shuffled true true true false a0 a1 b0 b1 c0 c1 d0 d1 = refl
shuffled true true false true a0 a1 b0 b1 c0 c1 d0 d1 = refl
shuffled true true false false a0 a1 b0 b1 c0 c1 d0 d1 = refl
shuffled true false true true a0 a1 b0 b1 c0 c1 d0 d1 = refl
shuffled true false true false a0 a1 b0 b1 c0 c1 d0 d1 = refl
shuffled true false false true a0 a1 b0 b1 c0 c1 d0 d1 = refl
shuffled true false false false a0 a1 b0 b1 c0 c1 d0 d1 = refl
shuffled false true true true a0 a1 b0 b1 c0 c1 d0 d1 = refl
shuffled false true true false a0 a1 b0 b1 c0 c1 d0 d1 = refl
shuffled false true false true a0 a1 b0 b1 c0 c1 d0 d1 = refl
shuffled false true false false a0 a1 b0 b1 c0 c1 d0 d1 = refl
shuffled false false true true a0 a1 b0 b1 c0 c1 d0 d1 = refl
shuffled false false true false a0 a1 b0 b1 c0 c1 d0 d1 = refl
shuffled false false false true a0 a1 b0 b1 c0 c1 d0 d1 = refl
shuffled false false false false a0 a1 b0 b1 c0 c1 d0 d1 = refl

abbrev part : Bool → ℕ → List ℕ
part long u = piece long (lane long u % 256) (lane long u / 256 % 256)

one_piece : (u : ℕ) (long : Bool) → leb 128 u ≡ long → u < 2048 → part long u ≡ encode u
one_piece u true e small =
    let six : bit_and u 63 ≡ u % 64 = and_mask u 6 in
    let from : 128 ≤ u = leb-true _ _ e in
    let low : both_of u % 256 ≡ 192 + u / 64 = omega (arith, six, small) in
    let high : both_of u / 256 % 256 ≡ 128 + u % 64 = omega (arith, six, small) in
    rw (low, high) (sym (two u from small))
one_piece u false e small =
    let below : u < 128 = leb-false _ _ e in
    let low : u % 256 ≡ u = omega (arith, below) in
    rw low (sym (one u below))

narrow_lane : (u : ℕ) (long : Bool) → u < 2048 → lane long u < 65536
narrow_lane u true small = omega arith
narrow_lane u false small = omega (arith, small)

pub four_are : (a b c d : ℕ) → a < 2048 → b < 2048 → c < 2048 → d < 2048
    → take (get_or COUNTS (set_of (leb 128 a) (leb 128 b) (leb 128 c) (leb 128 d)) 0)
    (swz_l w8 16 (digits_l 256 16 (number_l 65536 (lane (leb 128 a) a ∷ lane (leb 128 b) b ∷ lane (leb 128 c) c ∷ lane (leb 128 d) d ∷ 0 ∷ 0 ∷ 0 ∷ 0 ∷ []))) 0 (get_or PLACES (set_of (leb 128 a) (leb 128 b) (leb 128 c) (leb 128 d)) []))
    ≡ encodes (a ∷ b ∷ c ∷ d ∷ [])
four_are a b c d ha hb hc hd = go (leb 128 a) (leb 128 b) (leb 128 c) (leb 128 d) refl refl refl refl
  where
    go : (p q r s : Bool) → leb 128 a ≡ p → leb 128 b ≡ q → leb 128 c ≡ r → leb 128 d ≡ s
        → take (get_or COUNTS (set_of p q r s) 0) (swz_l w8 16 (digits_l 256 16 (number_l 65536 (lane p a ∷ lane q b ∷ lane r c ∷ lane s d ∷ 0 ∷ 0 ∷ 0 ∷ 0 ∷ []))) 0 (get_or PLACES (set_of p q r s) [])) ≡ encodes (a ∷ b ∷ c ∷ d ∷ [])
    go p q r s ep eq er es =
        ap (λ (l : List ℕ). take (get_or COUNTS (set_of p q r s) 0) (swz_l w8 16 l 0 (get_or PLACES (set_of p q r s) []))) (lanes_apart (lane p a) (lane q b) (lane r c) (lane s d) (narrow_lane a p ha) (narrow_lane b q hb) (narrow_lane c r hc) (narrow_lane d s hd))
        ∙ shuffled p q r s (lane p a % 256) (lane p a / 256 % 256) (lane q b % 256) (lane q b / 256 % 256) (lane r c % 256) (lane r c / 256 % 256) (lane s d % 256) (lane s d / 256 % 256)
        ∙ ap (λ (l : List ℕ). l ++ (part q b ++ (part r c ++ (part s d ++ [])))) (one_piece a p ep ha)
        ∙ ap (λ (l : List ℕ). encode a ++ (l ++ (part r c ++ (part s d ++ [])))) (one_piece b q eq hb)
        ∙ ap (λ (l : List ℕ). encode a ++ (encode b ++ (l ++ (part s d ++ [])))) (one_piece c r er hc)
        ∙ ap (λ (l : List ℕ). encode a ++ (encode b ++ (encode c ++ (l ++ [])))) (one_piece d s es hd)

-- the first octets of sixteen that are written at a place
lanes_written : (out lanes : List ℕ) (at count : ℕ) → length lanes ≡ 16 → count ≤ 16 → at + 16 ≤ length out → take (at + count) (put_chunk at out lanes) ≡ take at out ++ take count lanes
lanes_written out lanes at count sixteen few room =
    let before : List ℕ = take at out in
    let whole : take (at + 16) (put_chunk at out lanes) ≡ before ++ lanes = take_more_put_chunk at out lanes (at + 16) (omega (arith, sixteen)) room in
    let halves : lanes ≡ take count lanes ++ drop count lanes = sym (take-append-drop count lanes) in
    let parts : before ++ lanes ≡ (before ++ take count lanes) ++ drop count lanes = ap (λ (l : List ℕ). before ++ l) halves ∙ sym (append_assoc before (take count lanes) (drop count lanes)) in
    let long : length (before ++ take count lanes) ≡ at + count = length-append before (take count lanes) ∙ omega (arith, length-take-le at out (omega (arith, room)), length-take-le count lanes (omega (arith, sixteen, few))) in
    sym (take-take (at + count) (at + 16) (put_chunk at out lanes) (omega (arith, few))) ∙ ap (take (at + count)) (whole ∙ parts) ∙ take_at (before ++ take count lanes) (drop count lanes) (at + count) long

-- the text of octets whose first four units are these
four_first : (octets : List ℕ) (p q r s : ℕ) → 8 ≤ length octets → p ≡ 256 * get_or octets 0 0 + get_or octets 1 0 → q ≡ 256 * get_or octets 2 0 + get_or octets 3 0 → r ≡ 256 * get_or octets 4 0 + get_or octets 5 0 → s ≡ 256 * get_or octets 6 0 + get_or octets 7 0
    → p < 2048 → q < 2048 → r < 2048 → s < 2048 → text_in octets ≡ p ∷ q ∷ r ∷ s ∷ text_in (drop 8 octets)
unfolding units_high_first
four_first [] p q r s many ip iq ir is hp hq hr hs = absurd (omega arith)
four_first (a ∷ []) p q r s many ip iq ir is hp hq hr hs = absurd (omega arith)
four_first (a ∷ b ∷ []) p q r s many ip iq ir is hp hq hr hs = absurd (omega arith)
four_first (a ∷ b ∷ c ∷ []) p q r s many ip iq ir is hp hq hr hs = absurd (omega arith)
four_first (a ∷ b ∷ c ∷ d ∷ []) p q r s many ip iq ir is hp hq hr hs = absurd (omega arith)
four_first (a ∷ b ∷ c ∷ d ∷ e ∷ []) p q r s many ip iq ir is hp hq hr hs = absurd (omega arith)
four_first (a ∷ b ∷ c ∷ d ∷ e ∷ f ∷ []) p q r s many ip iq ir is hp hq hr hs = absurd (omega arith)
four_first (a ∷ b ∷ c ∷ d ∷ e ∷ f ∷ g ∷ []) p q r s many ip iq ir is hp hq hr hs = absurd (omega arith)
four_first (a ∷ b ∷ c ∷ d ∷ e ∷ f ∷ g ∷ h ∷ others) p q r s many ip iq ir is hp hq hr hs =
    let units : List ℕ = units_high_first others in
    ap (λ (l : List ℕ). utf16_lossy_chars l) (ap (λ (n : ℕ). n ∷ (256 * c + d) ∷ (256 * e + f) ∷ (256 * g + h) ∷ units) (sym ip) ∙ ap (λ (n : ℕ). p ∷ n ∷ (256 * e + f) ∷ (256 * g + h) ∷ units) (sym iq) ∙ ap (λ (n : ℕ). p ∷ q ∷ n ∷ (256 * g + h) ∷ units) (sym ir) ∙ ap (λ (n : ℕ). p ∷ q ∷ r ∷ n ∷ units) (sym is))
    ∙ whole_unit p (q ∷ r ∷ s ∷ units) (inl (omega (arith, hp))) ∙ ap (λ (l : List ℕ). p ∷ l) (whole_unit q (r ∷ s ∷ units) (inl (omega (arith, hq))) ∙ ap (λ (l : List ℕ). q ∷ l) (whole_unit r (s ∷ units) (inl (omega (arith, hr))) ∙ ap (λ (l : List ℕ). r ∷ l) (whole_unit s units (inl (omega (arith, hs))))))

four_utf8 : (p q r s : ℕ) → p < 2048 → q < 2048 → r < 2048 → s < 2048 → IsUtf8 (encodes (p ∷ q ∷ r ∷ s ∷ []))
four_utf8 p q r s hp hq hr hs =
    (p ∷ q ∷ r ∷ s ∷ [], (rw (low_scalar p (omega (arith, hp)), low_scalar q (omega (arith, hq)), low_scalar r (omega (arith, hr)), low_scalar s (omega (arith, hs))) refl, refl))

pub four_placed : (out lanes octets others : List ℕ) (at count p q r s : ℕ) → length lanes ≡ 16 → count ≤ 8 → at + 16 ≤ length out → take count lanes ≡ encodes (p ∷ q ∷ r ∷ s ∷ [])
    → 8 ≤ length octets → others ≡ take (length octets - 8) (drop 8 octets) → p ≡ 256 * get_or octets 0 0 + get_or octets 1 0 → q ≡ 256 * get_or octets 2 0 + get_or octets 3 0 → r ≡ 256 * get_or octets 4 0 + get_or octets 5 0 → s ≡ 256 * get_or octets 6 0 + get_or octets 7 0
    → p < 2048 → q < 2048 → r < 2048 → s < 2048
    → (take (at + count) (put_chunk at out lanes) ++ encodes (text_in others) ≡ take at out ++ encodes (text_in octets)) × (IsUtf8 (take at out) → IsUtf8 (take (at + count) (put_chunk at out lanes)))
four_placed out lanes octets others at count p q r s sixteen few room spelled many is ip iq ir ir_s hp hq hr hs =
    let four : List ℕ = p ∷ q ∷ r ∷ s ∷ [] in
    let new : take (at + count) (put_chunk at out lanes) ≡ take at out ++ encodes four = lanes_written out lanes at count sixteen (omega (arith, few)) room ∙ ap (λ (l : List ℕ). take at out ++ l) spelled in
    let rest : text_in octets ≡ four ++ text_in others = four_first octets p q r s many ip iq ir ir_s hp hq hr hs ∙ ap (λ (l : List ℕ). four ++ text_in l) (sym (is ∙ take_rest octets 8)) in (
      ap (λ (l : List ℕ). l ++ encodes (text_in others)) new ∙ append_assoc (take at out) (encodes four) (encodes (text_in others)) ∙ ap (λ (l : List ℕ). take at out ++ l) (sym (encodes-append four (text_in others))) ∙ ap (λ (l : List ℕ). take at out ++ encodes l) (sym rest),
      λ text. subst IsUtf8 (sym new) (IsUtf8-append _ _ text (four_utf8 p q r s hp hq hr hs)),
    )

-- ---- units from octets

wide : (n x y z : ℕ) → x < 256 → y < 256 → digits_l 65536 (suc n) (x + 256 * (y + 256 * z)) ≡ (256 * y + x) ∷ digits_l 65536 n z
wide n x y z hx hy =
    let low : (x + 256 * (y + 256 * z)) % 65536 ≡ 256 * y + x = omega (arith, hx, hy) in
    let rest : (x + 256 * (y + 256 * z)) / 65536 ≡ z = omega (arith, hx, hy) in
    rw (low, rest) refl

abbrev swapped : List ℕ → List ℕ
swapped octets = pick_l 0 (chunk 0 8 octets ++ replicate 8 0) (1 ∷ 0 ∷ 3 ∷ 2 ∷ 5 ∷ 4 ∷ 7 ∷ 6 ∷ 8 ∷ 8 ∷ 8 ∷ 8 ∷ 8 ∷ 8 ∷ 8 ∷ 8 ∷ [])

pub units_are : (octets : List ℕ) → ((i : ℕ) → Fits w8 (get_or octets i 0)) → 8 ≤ length octets → digits_l 65536 8 (number_l 256 (swapped octets))
    ≡ (256 * get_or octets 0 0 + get_or octets 1 0) ∷ (256 * get_or octets 2 0 + get_or octets 3 0) ∷ (256 * get_or octets 4 0 + get_or octets 5 0) ∷ (256 * get_or octets 6 0 + get_or octets 7 0) ∷ 0 ∷ 0 ∷ 0 ∷ 0 ∷ []
units_are [] fits many = absurd (omega arith)
units_are (a ∷ []) fits many = absurd (omega arith)
units_are (a ∷ b ∷ []) fits many = absurd (omega arith)
units_are (a ∷ b ∷ c ∷ []) fits many = absurd (omega arith)
units_are (a ∷ b ∷ c ∷ d ∷ []) fits many = absurd (omega arith)
units_are (a ∷ b ∷ c ∷ d ∷ e ∷ []) fits many = absurd (omega arith)
units_are (a ∷ b ∷ c ∷ d ∷ e ∷ f ∷ []) fits many = absurd (omega arith)
units_are (a ∷ b ∷ c ∷ d ∷ e ∷ f ∷ g ∷ []) fits many = absurd (omega arith)
units_are (a ∷ b ∷ c ∷ d ∷ e ∷ f ∷ g ∷ h ∷ others) fits many =
    wide 7 b a _ (fits 1).fits (fits 0).fits ∙ ap (λ (l : List ℕ). (256 * a + b) ∷ l) (wide 6 d c _ (fits 3).fits (fits 2).fits ∙ ap (λ (l : List ℕ). (256 * c + d) ∷ l) (wide 5 f e _ (fits 5).fits (fits 4).fits ∙ ap (λ (l : List ℕ). (256 * e + f) ∷ l) (wide 4 h g 0 (fits 7).fits (fits 6).fits)))

abbrev at_least : ℕ → ℕ → ℕ
at_least a b = cond (leb a b) 65535 0

abbrev longer : List ℕ → List Bool
longer units = map (top 15) (zip2 at_least (replicate 8 128) units)

abbrev two_lanes : List ℕ → List ℕ
two_lanes units =
    zip2 (λ a b. (a + b) % 65536) (zip2 (λ a b. (a + b) % 65536) (zip2 (λ a b. a / 2 ^ b) units (replicate 8 6)) (zip2 (λ a b. a * 2 ^ b % 65536) (zip2 bit_and units (replicate 8 63)) (replicate 8 8))) (replicate 8 32960)

pub four_of : (units : List ℕ) (a b c d : ℕ) → units ≡ a ∷ b ∷ c ∷ d ∷ 0 ∷ 0 ∷ 0 ∷ 0 ∷ [] → a < 2048 → b < 2048 → c < 2048 → d < 2048
    → take (get_or COUNTS (mask_l (longer units) % 18446744073709551616) 0) (swz_l w8 16 (digits_l 256 16 (number_l 65536 (sel_l (longer units) (two_lanes units) units))) 0 (get_or PLACES (mask_l (longer units) % 18446744073709551616) []))
    ≡ encodes (take 4 units)
four_of units a b c d e ha hb hc hd = rw e (four_are a b c d ha hb hc hd)
