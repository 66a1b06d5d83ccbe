-- Eight septets in a word: each in an octet, in pairs of 14 bits, in halves of 28, and one after another.
use Rattle.std.proofs.Common.{◌≡◌, ℕ, ◌+◌, ◌-◌, ◌*◌, ◌/◌, ◌%◌, ◌^◌, ◌<◌, ◌≤◌, List, [], ◌∷◌, ◌++◌, length, take, get_or, w64, refl, sym, ap, ◌∙◌, append_assoc, length-append, arith}
use Rattle.std.proofs.Math.Nat.{div-div-eq-div-mul}
use Rattle.std.proofs.lemmas.List.{take_at, take-take, length-take-le}
use Rattle.std.proofs.lemmas.Slice.{take-put_mid}
use borrow.Rule.Slice.PartMut.{put_mid}
use Rattle.std.specs.Int.{to_le_bytes, from_le_bytes}
use Rattle.std.specs.Int.Bits.{bit_and}
use Rattle.std.proofs.lemmas.Nat.{and_mask, and_block, le_bytes_8}
use Rattle.sms_text.specs.Bits.{AreSeptets}
use Rattle.sms_text.specs.Inside.Words.{low_octets, low_septets}
use Rattle.sms_text.proofs.Words.{low_octets-cons, low_septets-cons}

-- ---- masks, a part of the word at a time

pair_masked : (w a b m : ℕ) → m ≡ b * 2 ^ 16 + 127 → a ≡ w / 65536 → bit_and w m ≡ w % 128 + 65536 * bit_and a b
pair_masked w a b m mask above =
    let whole : w ≡ a * 2 ^ 16 + w % 65536 = omega arith in
    let low : bit_and (w % 65536) 127 ≡ w % 65536 % 128 = and_mask (w % 65536) 7 in
    let same : w % 65536 % 128 ≡ w % 128 = omega arith in
    let parts : bit_and (a * 2 ^ 16 + w % 65536) (b * 2 ^ 16 + 127) ≡ bit_and a b * 2 ^ 16 + bit_and (w % 65536) 127 = and_block 16 a b (w % 65536) 127 (omega arith) (omega arith) in
    let swapped : bit_and a b * 2 ^ 16 + bit_and (w % 65536) 127 ≡ w % 128 + 65536 * bit_and a b = omega (arith, low, same) in
    ap (λ (x : ℕ). bit_and x m) whole ∙ ap (bit_and (a * 2 ^ 16 + w % 65536)) mask ∙ parts ∙ swapped

pub pairs_masked : (w : ℕ) → bit_and w 35747867511423103 ≡ w % 128 + 65536 * (w / 65536 % 128 + 65536 * (w / 65536 / 65536 % 128 + 65536 * (w / 65536 / 65536 / 65536 % 128)))
pairs_masked w =
    let one = pair_masked w (w / 65536) 545469169791 35747867511423103 refl refl in
    let two = pair_masked (w / 65536) (w / 65536 / 65536) 8323199 545469169791 refl refl in
    let three = pair_masked (w / 65536 / 65536) (w / 65536 / 65536 / 65536) 127 8323199 refl refl in
    let four : bit_and (w / 65536 / 65536 / 65536) 127 ≡ w / 65536 / 65536 / 65536 % 128 = and_mask (w / 65536 / 65536 / 65536) 7 in
    omega (arith, one, two, three, four)

pub halves_masked : (w : ℕ) → bit_and w 70364449226751 ≡ w % 16384 + 4294967296 * (w / 4294967296 % 16384)
halves_masked w =
    let a : ℕ = w / 4294967296 in
    let r : ℕ = w % 4294967296 in
    let whole : w ≡ a * 2 ^ 32 + r = omega arith in
    let parts : bit_and (a * 2 ^ 32 + r) (16383 * 2 ^ 32 + 16383) ≡ bit_and a 16383 * 2 ^ 32 + bit_and r 16383 = and_block 32 a 16383 r 16383 (omega arith) (omega arith) in
    let low : bit_and r 16383 ≡ r % 16384 = and_mask r 14 in
    let high : bit_and a 16383 ≡ a % 16384 = and_mask a 14 in
    let same : r % 16384 ≡ w % 16384 = omega arith in
    let swapped : bit_and a 16383 * 2 ^ 32 + bit_and r 16383 ≡ w % 16384 + 4294967296 * (a % 16384) = omega (arith, low, high, same) in
    ap (λ (x : ℕ). bit_and x 70364449226751) whole ∙ parts ∙ swapped

-- ---- eight numbers as a word

no_octets : (n : ℕ) → low_octets 0 n ≡ []
unfolding low_octets
no_octets n = refl

no_septets : (n : ℕ) → low_septets 0 n ≡ []
unfolding low_septets
no_septets n = refl

octets_are : (s0 s1 s2 s3 s4 s5 s6 s7 : ℕ) → s0 < 256 → s1 < 256 → s2 < 256 → s3 < 256 → s4 < 256 → s5 < 256 → s6 < 256 → s7 < 256 → low_octets 8 (s0 + 256 * (s1 + 256 * (s2 + 256 * (s3 + 256 * (s4 + 256 * (s5 + 256 * (s6 + 256 * (s7 + 256 * 0)))))))) ≡ s0 ∷ s1 ∷ s2 ∷ s3 ∷ s4 ∷ s5 ∷ s6 ∷ s7 ∷ []
octets_are s0 s1 s2 s3 s4 s5 s6 s7 h0 h1 h2 h3 h4 h5 h6 h7 = low_octets-cons 7 s0 _ h0 ∙ ap (λ (l : List ℕ). s0 ∷ l) (low_octets-cons 6 s1 _ h1 ∙ ap (λ (l : List ℕ). s1 ∷ l) (low_octets-cons 5 s2 _ h2 ∙ ap (λ (l : List ℕ). s2 ∷ l) (low_octets-cons 4 s3 _ h3 ∙ ap (λ (l : List ℕ). s3 ∷ l) (low_octets-cons 3 s4 _ h4 ∙ ap (λ (l : List ℕ). s4 ∷ l) (low_octets-cons 2 s5 _ h5 ∙ ap (λ (l : List ℕ). s5 ∷ l) (low_octets-cons 1 s6 _ h6 ∙ ap (λ (l : List ℕ). s6 ∷ l) (low_octets-cons 0 s7 _ h7 ∙ ap (λ (l : List ℕ). s7 ∷ l) (no_octets 0))))))))

septets_are : (s0 s1 s2 s3 s4 s5 s6 s7 : ℕ) → s0 < 128 → s1 < 128 → s2 < 128 → s3 < 128 → s4 < 128 → s5 < 128 → s6 < 128 → s7 < 128 → low_septets 8 (s0 + 128 * (s1 + 128 * (s2 + 128 * (s3 + 128 * (s4 + 128 * (s5 + 128 * (s6 + 128 * (s7 + 128 * 0)))))))) ≡ s0 ∷ s1 ∷ s2 ∷ s3 ∷ s4 ∷ s5 ∷ s6 ∷ s7 ∷ []
septets_are s0 s1 s2 s3 s4 s5 s6 s7 h0 h1 h2 h3 h4 h5 h6 h7 = low_septets-cons 7 s0 _ h0 ∙ ap (λ (l : List ℕ). s0 ∷ l) (low_septets-cons 6 s1 _ h1 ∙ ap (λ (l : List ℕ). s1 ∷ l) (low_septets-cons 5 s2 _ h2 ∙ ap (λ (l : List ℕ). s2 ∷ l) (low_septets-cons 4 s3 _ h3 ∙ ap (λ (l : List ℕ). s3 ∷ l) (low_septets-cons 3 s4 _ h4 ∙ ap (λ (l : List ℕ). s4 ∷ l) (low_septets-cons 2 s5 _ h5 ∙ ap (λ (l : List ℕ). s5 ∷ l) (low_septets-cons 1 s6 _ h6 ∙ ap (λ (l : List ℕ). s6 ∷ l) (low_septets-cons 0 s7 _ h7 ∙ ap (λ (l : List ℕ). s7 ∷ l) (no_septets 0))))))))

-- ---- the parts that the masks leave

abbrev low_of_pairs : ℕ → ℕ
low_of_pairs w = w % 128 + 65536 * (w / 65536 % 128 + 65536 * (w / 65536 / 65536 % 128 + 65536 * (w / 65536 / 65536 / 65536 % 128)))

abbrev low_of_halves : ℕ → ℕ
low_of_halves w = w % 16384 + 4294967296 * (w / 4294967296 % 16384)

pairs_of : (x0 x1 x2 x3 w : ℕ) → x0 < 65536 → x1 < 65536 → x2 < 65536 → w ≡ x0 + 65536 * (x1 + 65536 * (x2 + 65536 * x3)) → low_of_pairs w ≡ x0 % 128 + 65536 * (x1 % 128 + 65536 * (x2 % 128 + 65536 * (x3 % 128)))
pairs_of x0 x1 x2 x3 w b0 b1 b2 is =
    let w1 : w / 65536 ≡ x1 + 65536 * (x2 + 65536 * x3) = omega arith in
    let w2 : w / 65536 / 65536 ≡ x2 + 65536 * x3 = omega arith in
    let w3 : w / 65536 / 65536 / 65536 ≡ x3 = omega arith in
    let r0 : w % 128 ≡ x0 % 128 = omega arith in
    let r1 : w / 65536 % 128 ≡ x1 % 128 = omega arith in
    let r2 : w / 65536 / 65536 % 128 ≡ x2 % 128 = omega arith in
    let r3 : w / 65536 / 65536 / 65536 % 128 ≡ x3 % 128 = omega arith in
    rw (r0, r1, r2, r3) refl

halves_of : (h0 h1 w : ℕ) → h0 < 4294967296 → w ≡ h0 + 4294967296 * h1 → low_of_halves w ≡ h0 % 16384 + 4294967296 * (h1 % 16384)
halves_of h0 h1 w b0 is =
    let w1 : w / 4294967296 ≡ h1 = omega arith in
    let r0 : w % 16384 ≡ h0 % 16384 = omega arith in
    rw (w1, r0) refl

-- ---- pairs, halves and the whole, of numbers below 128

even_of_pair : (a b : ℕ) → a < 128 → (a + 256 * b) % 128 ≡ a
even_of_pair a b h = omega arith

low_of_pair : (a b : ℕ) → a < 16384 → (a + 65536 * b) % 16384 ≡ a
low_of_pair a b h = omega arith

squeezed_is : (s0 s1 s2 s3 s4 s5 s6 s7 w first pairs second halves third result : ℕ) → s0 < 128 → s1 < 128 → s2 < 128 → s3 < 128 → s4 < 128 → s5 < 128 → s6 < 128 → s7 < 128 → w ≡ s0 + 256 * (s1 + 256 * (s2 + 256 * (s3 + 256 * (s4 + 256 * (s5 + 256 * (s6 + 256 * s7)))))) → first ≡ low_of_pairs w → pairs ≡ first + (w - first) / 2 → second ≡ low_of_halves pairs → halves ≡ second + (pairs - second) / 4 → third ≡ halves % 268435456 → result ≡ third + (halves - third) / 16 → result ≡ s0 + 128 * (s1 + 128 * (s2 + 128 * (s3 + 128 * (s4 + 128 * (s5 + 128 * (s6 + 128 * (s7 + 128 * 0)))))))
squeezed_is s0 s1 s2 s3 s4 s5 s6 s7 w first pairs second halves third result h0 h1 h2 h3 h4 h5 h6 h7 is e1 e2 e3 e4 e5 e6 =
    let in_pairs : w ≡ (s0 + 256 * s1) + 65536 * ((s2 + 256 * s3) + 65536 * ((s4 + 256 * s5) + 65536 * (s6 + 256 * s7))) = omega arith in
    let firsts = pairs_of (s0 + 256 * s1) (s2 + 256 * s3) (s4 + 256 * s5) (s6 + 256 * s7) w (omega arith) (omega arith) (omega arith) in_pairs in
    let first_is : first ≡ s0 + 65536 * (s2 + 65536 * (s4 + 65536 * s6)) = omega (arith, firsts, even_of_pair s0 s1 h0, even_of_pair s2 s3 h2, even_of_pair s4 s5 h4, even_of_pair s6 s7 h6) in
    let rest_is : w - first ≡ 2 * (128 * (s1 + 65536 * (s3 + 65536 * (s5 + 65536 * s7)))) = omega (arith, first_is, in_pairs) in
    let pairs_are : pairs ≡ (s0 + 128 * s1) + 65536 * ((s2 + 128 * s3) + 65536 * ((s4 + 128 * s5) + 65536 * (s6 + 128 * s7))) = omega (arith, first_is, rest_is, e2) in
    let y0 : ℕ = s0 + 128 * s1 in
    let y1 : ℕ = s2 + 128 * s3 in
    let y2 : ℕ = s4 + 128 * s5 in
    let y3 : ℕ = s6 + 128 * s7 in
    let in_halves : pairs ≡ (y0 + 65536 * y1) + 4294967296 * (y2 + 65536 * y3) = omega (arith, pairs_are) in
    let seconds = halves_of (y0 + 65536 * y1) (y2 + 65536 * y3) pairs (omega arith) in_halves in
    let second_is : second ≡ y0 + 4294967296 * y2 = omega (arith, seconds, low_of_pair y0 y1 (omega arith), low_of_pair y2 y3 (omega arith), e3) in
    let others_are : pairs - second ≡ 4 * (16384 * (y1 + 4294967296 * y3)) = omega (arith, in_halves, second_is) in
    let halves_are : halves ≡ (y0 + 16384 * y1) + 4294967296 * (y2 + 16384 * y3) = omega (arith, second_is, others_are, e4) in
    let third_is : third ≡ y0 + 16384 * y1 = omega (arith, halves_are, e5) in
    let last_are : halves - third ≡ 16 * (268435456 * (y2 + 16384 * y3)) = omega (arith, halves_are, third_is) in
    omega (arith, third_is, last_are, e6)

pub squeezed_word : (w first pairs second halves third result : ℕ) → w < 2 ^ 64 → AreSeptets (low_octets 8 w) → first ≡ low_of_pairs w → pairs ≡ first + (w - first) / 2 → second ≡ low_of_halves pairs → halves ≡ second + (pairs - second) / 4 → third ≡ halves % 268435456 → result ≡ third + (halves - third) / 16 → low_septets 8 result ≡ low_octets 8 w
unfolding low_octets
squeezed_word w first pairs second halves third result bound are e1 e2 e3 e4 e5 e6 =
    let q1 : ℕ = w / 256 in
    let q2 : ℕ = q1 / 256 in
    let q3 : ℕ = q2 / 256 in
    let q4 : ℕ = q3 / 256 in
    let q5 : ℕ = q4 / 256 in
    let q6 : ℕ = q5 / 256 in
    let q7 : ℕ = q6 / 256 in
    let none : q7 / 256 ≡ 0 = omega arith in
    let is : w ≡ w % 256 + 256 * (q1 % 256 + 256 * (q2 % 256 + 256 * (q3 % 256 + 256 * (q4 % 256 + 256 * (q5 % 256 + 256 * (q6 % 256 + 256 * (q7 % 256))))))) = omega (arith, none) in
    let e = squeezed_is (w % 256) (q1 % 256) (q2 % 256) (q3 % 256) (q4 % 256) (q5 % 256) (q6 % 256) (q7 % 256) w first pairs second halves third result are.0 are.1.0 are.1.1.0 are.1.1.1.0 are.1.1.1.1.0 are.1.1.1.1.1.0 are.1.1.1.1.1.1.0 are.1.1.1.1.1.1.1.0 is e1 e2 e3 e4 e5 e6 in
    ap (low_septets 8) e ∙ septets_are (w % 256) (q1 % 256) (q2 % 256) (q3 % 256) (q4 % 256) (q5 % 256) (q6 % 256) (q7 % 256) are.0 are.1.0 are.1.1.0 are.1.1.1.0 are.1.1.1.1.0 are.1.1.1.1.1.0 are.1.1.1.1.1.1.0 are.1.1.1.1.1.1.1.0

spread_is : (s0 s1 s2 s3 s4 s5 s6 s7 w first halves second pairs third result : ℕ) → s0 < 128 → s1 < 128 → s2 < 128 → s3 < 128 → s4 < 128 → s5 < 128 → s6 < 128 → s7 < 128 → w ≡ s0 + 128 * (s1 + 128 * (s2 + 128 * (s3 + 128 * (s4 + 128 * (s5 + 128 * (s6 + 128 * s7)))))) → first ≡ w % 268435456 → halves ≡ first + (w - first) * 16 → second ≡ low_of_halves halves → pairs ≡ second + (halves - second) * 4 → third ≡ low_of_pairs pairs → result ≡ third + (pairs - third) * 2 → result ≡ s0 + 256 * (s1 + 256 * (s2 + 256 * (s3 + 256 * (s4 + 256 * (s5 + 256 * (s6 + 256 * (s7 + 256 * 0)))))))
spread_is s0 s1 s2 s3 s4 s5 s6 s7 w first halves second pairs third result h0 h1 h2 h3 h4 h5 h6 h7 is e1 e2 e3 e4 e5 e6 =
    let y0 : ℕ = s0 + 128 * s1 in
    let y1 : ℕ = s2 + 128 * s3 in
    let y2 : ℕ = s4 + 128 * s5 in
    let y3 : ℕ = s6 + 128 * s7 in
    let in_halves : w ≡ (y0 + 16384 * y1) + 268435456 * (y2 + 16384 * y3) = omega arith in
    let first_is : first ≡ y0 + 16384 * y1 = omega (arith, in_halves, e1) in
    let rest_is : w - first ≡ 268435456 * (y2 + 16384 * y3) = omega (arith, in_halves, first_is) in
    let halves_are : halves ≡ (y0 + 16384 * y1) + 4294967296 * (y2 + 16384 * y3) = omega (arith, first_is, rest_is, e2) in
    let seconds = halves_of (y0 + 16384 * y1) (y2 + 16384 * y3) halves (omega arith) halves_are in
    let low0 : (y0 + 16384 * y1) % 16384 ≡ y0 = omega arith in
    let low1 : (y2 + 16384 * y3) % 16384 ≡ y2 = omega arith in
    let second_is : second ≡ y0 + 4294967296 * y2 = omega (arith, seconds, low0, low1, e3) in
    let others_are : halves - second ≡ 16384 * (y1 + 4294967296 * y3) = omega (arith, halves_are, second_is) in
    let pairs_are : pairs ≡ y0 + 65536 * (y1 + 65536 * (y2 + 65536 * y3)) = omega (arith, second_is, others_are, e4) in
    let thirds = pairs_of y0 y1 y2 y3 pairs (omega arith) (omega arith) (omega arith) pairs_are in
    let t0 : y0 % 128 ≡ s0 = omega arith in
    let t1 : y1 % 128 ≡ s2 = omega arith in
    let t2 : y2 % 128 ≡ s4 = omega arith in
    let t3 : y3 % 128 ≡ s6 = omega arith in
    let third_is : third ≡ s0 + 65536 * (s2 + 65536 * (s4 + 65536 * s6)) = omega (arith, thirds, t0, t1, t2, t3, e5) in
    let last_are : pairs - third ≡ 128 * (s1 + 65536 * (s3 + 65536 * (s5 + 65536 * s7))) = omega (arith, pairs_are, third_is) in
    omega (arith, third_is, last_are, e6)

pub spread_word : (n w first halves second pairs third result : ℕ) → w ≡ n % 72057594037927936 → first ≡ w % 268435456 → halves ≡ first + (w - first) * 16 → second ≡ low_of_halves halves → pairs ≡ second + (halves - second) * 4 → third ≡ low_of_pairs pairs → result ≡ third + (pairs - third) * 2 → low_octets 8 result ≡ low_septets 8 n
unfolding low_septets
spread_word n w first halves second pairs third result cut e1 e2 e3 e4 e5 e6 =
    let q1 : ℕ = n / 128 in
    let q2 : ℕ = q1 / 128 in
    let q3 : ℕ = q2 / 128 in
    let q4 : ℕ = q3 / 128 in
    let q5 : ℕ = q4 / 128 in
    let q6 : ℕ = q5 / 128 in
    let q7 : ℕ = q6 / 128 in
    let whole : n ≡ (n % 128 + 128 * (q1 % 128 + 128 * (q2 % 128 + 128 * (q3 % 128 + 128 * (q4 % 128 + 128 * (q5 % 128 + 128 * (q6 % 128 + 128 * (q7 % 128)))))))) + 72057594037927936 * (q7 / 128) = omega arith in
    let is : w ≡ n % 128 + 128 * (q1 % 128 + 128 * (q2 % 128 + 128 * (q3 % 128 + 128 * (q4 % 128 + 128 * (q5 % 128 + 128 * (q6 % 128 + 128 * (q7 % 128))))))) = omega (arith, whole, cut) in
    let e = spread_is (n % 128) (q1 % 128) (q2 % 128) (q3 % 128) (q4 % 128) (q5 % 128) (q6 % 128) (q7 % 128) w first halves second pairs third result (omega arith) (omega arith) (omega arith) (omega arith) (omega arith) (omega arith) (omega arith) (omega arith) is e1 e2 e3 e4 e5 e6 in
    ap (low_octets 8) e ∙ octets_are (n % 128) (q1 % 128) (q2 % 128) (q3 % 128) (q4 % 128) (q5 % 128) (q6 % 128) (q7 % 128) (omega arith) (omega arith) (omega arith) (omega arith) (omega arith) (omega arith) (omega arith) (omega arith)

-- ---- a word in memory, its lowest octet first

pub octets_in_memory : (w : ℕ) → to_le_bytes w64 w ≡ low_octets 8 w
unfolding low_octets
octets_in_memory w =
    let e2 : w / 65536 ≡ w / 256 / 256 = sym (div-div-eq-div-mul w 256 256) in
    let e3 : w / 16777216 ≡ w / 256 / 256 / 256 = sym (div-div-eq-div-mul w 65536 256) ∙ ap (λ (n : ℕ). n / 256) e2 in
    let e4 : w / 4294967296 ≡ w / 256 / 256 / 256 / 256 = sym (div-div-eq-div-mul w 16777216 256) ∙ ap (λ (n : ℕ). n / 256) e3 in
    let e5 : w / 1099511627776 ≡ w / 256 / 256 / 256 / 256 / 256 = sym (div-div-eq-div-mul w 4294967296 256) ∙ ap (λ (n : ℕ). n / 256) e4 in
    let e6 : w / 281474976710656 ≡ w / 256 / 256 / 256 / 256 / 256 / 256 = sym (div-div-eq-div-mul w 1099511627776 256) ∙ ap (λ (n : ℕ). n / 256) e5 in
    let e7 : w / 72057594037927936 ≡ w / 256 / 256 / 256 / 256 / 256 / 256 / 256 = sym (div-div-eq-div-mul w 281474976710656 256) ∙ ap (λ (n : ℕ). n / 256) e6 in
    rw (e2, e3, e4, e5, e6, e7) refl

-- the word of eight octets
pub octets_of_block : (block : List ℕ) (w : ℕ) → length block ≡ 8 → ((k : ℕ) → get_or block k 0 < 256) → w ≡ from_le_bytes w64 block → low_octets 8 w ≡ block
octets_of_block block w len small is = sym (octets_in_memory w) ∙ le_bytes_8 block w len small is

-- eight octets are added, and the last is taken off again
eight_octets : (w : ℕ) → (last : ℕ) × (low_octets 8 w ≡ low_octets 7 w ++ last ∷ []) × (length (low_octets 7 w) ≡ 7)
unfolding low_octets
eight_octets w = (w / 256 / 256 / 256 / 256 / 256 / 256 / 256 % 256, refl, refl)

seven_left : (old items new : List ℕ) (n w : ℕ) → items ≡ old ++ to_le_bytes w64 w → n ≡ length items → new ≡ take (n - 1) items → new ≡ old ++ low_octets 7 w
seven_left old items new n w e len cut =
    let split = eight_octets w in
    let whole : items ≡ (old ++ low_octets 7 w) ++ split.0 ∷ [] = e ∙ ap (λ (l : List ℕ). old ++ l) (octets_in_memory w ∙ split.1) ∙ sym (append_assoc old (low_octets 7 w) (split.0 ∷ [])) in
    let size : length (old ++ low_octets 7 w) ≡ n - 1 = omega (arith, len, ap length whole, length-append (old ++ low_octets 7 w) (split.0 ∷ [])) in
    cut ∙ ap (take (n - 1)) whole ∙ take_at (old ++ low_octets 7 w) (split.0 ∷ []) (n - 1) size

-- seven of eight octets that are written into others
pub block_written : (octets written : List ℕ) (at k w : ℕ) → written ≡ to_le_bytes w64 w → k ≡ 8 → at + 8 ≤ length octets → take (at + 7) (put_mid at k octets written) ≡ take at octets ++ low_octets 7 w
block_written octets written at k w chunk wide room =
    let eight : length written ≡ 8 = ap length chunk in
    let before : List ℕ = take at octets in
    let whole : take (at + 8) (put_mid at k octets written) ≡ before ++ to_le_bytes w64 w = take-put_mid at k octets written (at + 8) (omega (arith, eight)) (omega (arith, room)) ∙ ap (λ (l : List ℕ). before ++ l) chunk in
    let size : at + 8 ≡ length (take (at + 8) (put_mid at k octets written)) = omega (arith, ap length whole, length-append before (to_le_bytes w64 w), length-take-le at octets (omega (arith, room))) in
    let cut : take (at + 8 - 1) (take (at + 8) (put_mid at k octets written)) ≡ take (at + 8 - 1) (put_mid at k octets written) = take-take (at + 8 - 1) (at + 8) (put_mid at k octets written) (omega arith) in
    let seven : at + 7 ≡ at + 8 - 1 = omega arith in
    seven_left before (take (at + 8) (put_mid at k octets written)) (take (at + 7) (put_mid at k octets written)) (at + 8) w whole size (ap (λ (n : ℕ). take n (put_mid at k octets written)) seven ∙ sym cut)
