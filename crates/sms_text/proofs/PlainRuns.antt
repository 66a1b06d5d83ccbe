-- Four septets of which none is the escape: the test by one word, and their text.
use Rattle.std.proofs.Common.{◌≡◌, ◌≢◌, ℕ, ◌+◌, ◌-◌, ◌*◌, ◌/◌, ◌%◌, ◌^◌, ◌<◌, ◌≤◌, List, [], ◌∷◌, ◌++◌, length, take, drop, get_or, bit_and, refl, sym, ap, ◌∙◌, arith}
use Rattle.std.proofs.lemmas.Bool.{ne_eqb}
use Rattle.std.proofs.lemmas.List.{take_all}
use Rattle.std.proofs.lemmas.Nat.{and_block}
use Rattle.std.proofs.lemmas.Nat.Bits.{and_high}
use Rattle.std.proofs.Math.Utf8.{encode, encodes}
use Rattle.sms_text.specs.Bits.{AreSeptets}
use Rattle.sms_text.specs.Tables.{escape}
use Rattle.sms_text.specs.TextOfSeptets.{plain_character, text_of_septets}
use Rattle.sms_text.specs.Inside.FrontLaws.{text_from_plain}
use Rattle.sms_text.proofs.SameRuns.{text_one}

-- ---- the highest bits of the octets of a word

high_masked : (x r m b : ℕ) → x < 256 → m ≡ b * 2 ^ 8 + 128 → bit_and (x + 256 * r) m ≡ 128 * (x / 128) + 256 * bit_and r b
high_masked x r m b small mask =
    let whole : x + 256 * r ≡ r * 2 ^ 8 + x = omega arith in
    let low : bit_and x 128 ≡ x / 2 ^ 7 % 2 ^ 1 * 2 ^ 7 = and_high x 1 7 in
    let parts : bit_and (r * 2 ^ 8 + x) (b * 2 ^ 8 + 128) ≡ bit_and r b * 2 ^ 8 + bit_and x 128 = and_block 8 r b x 128 (omega (arith, small)) (omega arith) in
    let swapped : bit_and r b * 2 ^ 8 + bit_and x 128 ≡ 128 * (x / 128) + 256 * bit_and r b = omega (arith, low, small) in
    ap (λ (n : ℕ). bit_and n m) whole ∙ ap (bit_and (r * 2 ^ 8 + x)) mask ∙ parts ∙ swapped

both_high : (x y r s m b : ℕ) → x < 256 → y < 256 → m ≡ b * 2 ^ 8 + 128 → bit_and (x + 256 * r) m ≡ bit_and (y + 256 * s) m → (x / 128 ≡ y / 128) × (bit_and r b ≡ bit_and s b)
both_high x y r s m b hx hy mask e =
    let both : 128 * (x / 128) + 256 * bit_and r b ≡ 128 * (y / 128) + 256 * bit_and s b = sym (high_masked x r m b hx mask) ∙ e ∙ high_masked y s m b hy mask in
    (omega (arith, both, hx, hy), omega (arith, both, hx, hy))

other : (code : ℕ) → (code + 100) / 128 ≡ (code + 101) / 128 → code ≢ 27
other code e is = absurd (omega (arith, e, is))

four_other : (a b c d : ℕ) → a < 128 → b < 128 → c < 128 → d < 128
    → bit_and ((a + 100) + 256 * ((b + 100) + 256 * ((c + 100) + 256 * ((d + 100) + 256 * 0)))) 2155905152 ≡ bit_and ((a + 101) + 256 * ((b + 101) + 256 * ((c + 101) + 256 * ((d + 101) + 256 * 0)))) 2155905152
    → (a ≢ 27) × (b ≢ 27) × (c ≢ 27) × (d ≢ 27)
four_other a b c d ha hb hc hd e =
    let p = both_high (a + 100) (a + 101) _ _ 2155905152 8421504 (omega (arith, ha)) (omega (arith, ha)) refl e in
    let q = both_high (b + 100) (b + 101) _ _ 8421504 32896 (omega (arith, hb)) (omega (arith, hb)) refl p.1 in
    let r = both_high (c + 100) (c + 101) _ _ 32896 128 (omega (arith, hc)) (omega (arith, hc)) refl q.1 in
    let s = both_high (d + 100) (d + 101) 0 0 128 0 (omega (arith, hd)) (omega (arith, hd)) refl r.1 in
    (other a p.0, other b q.0, other c r.0, other d s.0)

pub no_escape : (codes : List ℕ) (w : ℕ) → length codes ≡ 4 → AreSeptets codes → w ≡ get_or codes 0 0 + 256 * (get_or codes 1 0 + 256 * (get_or codes 2 0 + 256 * get_or codes 3 0)) → bit_and (w + 1684300900) 2155905152 ≡ bit_and (w + 1701143909) 2155905152
    → (get_or codes 0 0 ≢ 27) × (get_or codes 1 0 ≢ 27) × (get_or codes 2 0 ≢ 27) × (get_or codes 3 0 ≢ 27)
no_escape [] w long are is e = absurd (omega (arith, long))
no_escape (a ∷ []) w long are is e = absurd (omega (arith, long))
no_escape (a ∷ b ∷ []) w long are is e = absurd (omega (arith, long))
no_escape (a ∷ b ∷ c ∷ []) w long are is e = absurd (omega (arith, long))
no_escape (a ∷ b ∷ c ∷ d ∷ others) w long are is e =
    let low : w + 1684300900 ≡ (a + 100) + 256 * ((b + 100) + 256 * ((c + 100) + 256 * ((d + 100) + 256 * 0))) = omega (arith, is) in
    let high : w + 1701143909 ≡ (a + 101) + 256 * ((b + 101) + 256 * ((c + 101) + 256 * ((d + 101) + 256 * 0))) = omega (arith, is) in
    four_other a b c d are.0 are.1.0 are.1.1.0 are.1.1.1.0 (ap (λ (n : ℕ). bit_and n 2155905152) (sym low) ∙ e ∙ ap (λ (n : ℕ). bit_and n 2155905152) high)

-- ---- their text

four_plain : (a b c d : ℕ) (others o0 o1 o2 o3 o4 : List ℕ) → a ≢ 27 → b ≢ 27 → c ≢ 27 → d ≢ 27 → o1 ≡ o0 ++ encode (plain_character a) → o2 ≡ o1 ++ encode (plain_character b) → o3 ≡ o2 ++ encode (plain_character c) → o4 ≡ o3 ++ encode (plain_character d)
    → o4 ++ encodes (text_of_septets others) ≡ o0 ++ encodes (text_of_septets (a ∷ b ∷ c ∷ d ∷ others))
four_plain a b c d others o0 o1 o2 o3 o4 na nb nc nd e1 e2 e3 e4 =
    let s1 = text_one o0 o1 (b ∷ c ∷ d ∷ others) (a ∷ b ∷ c ∷ d ∷ others) _ (plain_character a) (text_from_plain a (b ∷ c ∷ d ∷ others) (ne_eqb a escape na)) e1 refl in
    let s2 = text_one o1 o2 (c ∷ d ∷ others) (b ∷ c ∷ d ∷ others) _ (plain_character b) (text_from_plain b (c ∷ d ∷ others) (ne_eqb b escape nb)) e2 s1 in
    let s3 = text_one o2 o3 (d ∷ others) (c ∷ d ∷ others) _ (plain_character c) (text_from_plain c (d ∷ others) (ne_eqb c escape nc)) e3 s2 in
    text_one o3 o4 others (d ∷ others) _ (plain_character d) (text_from_plain d others (ne_eqb d escape nd)) e4 s3

pub four_first : (septets o0 o1 o2 o3 o4 : List ℕ) → 4 ≤ length septets → get_or septets 0 0 ≢ 27 → get_or septets 1 0 ≢ 27 → get_or septets 2 0 ≢ 27 → get_or septets 3 0 ≢ 27
    → o1 ≡ o0 ++ encode (plain_character (get_or septets 0 0)) → o2 ≡ o1 ++ encode (plain_character (get_or septets 1 0)) → o3 ≡ o2 ++ encode (plain_character (get_or septets 2 0)) → o4 ≡ o3 ++ encode (plain_character (get_or septets 3 0))
    → o4 ++ encodes (text_of_septets (take (length septets - 4) (drop 4 septets))) ≡ o0 ++ encodes (text_of_septets septets)
four_first [] o0 o1 o2 o3 o4 many na nb nc nd e1 e2 e3 e4 = absurd (omega (arith, many))
four_first (a ∷ []) o0 o1 o2 o3 o4 many na nb nc nd e1 e2 e3 e4 = absurd (omega (arith, many))
four_first (a ∷ b ∷ []) o0 o1 o2 o3 o4 many na nb nc nd e1 e2 e3 e4 = absurd (omega (arith, many))
four_first (a ∷ b ∷ c ∷ []) o0 o1 o2 o3 o4 many na nb nc nd e1 e2 e3 e4 = absurd (omega (arith, many))
four_first (a ∷ b ∷ c ∷ d ∷ others) o0 o1 o2 o3 o4 many na nb nc nd e1 e2 e3 e4 =
    ap (λ (l : List ℕ). o4 ++ encodes (text_of_septets l)) (take_all _ others (omega arith)) ∙ four_plain a b c d others o0 o1 o2 o3 o4 na nb nc nd e1 e2 e3 e4
