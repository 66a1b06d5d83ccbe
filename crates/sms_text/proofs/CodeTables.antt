-- The tables by code and by character, compared with the lists of the definition, entry by entry.
use Rattle.std.proofs.Common.{◌≡◌, ◌≢◌, ℕ, zero, suc, ◌<◌, ◌≤◌, Bool, true, false, not, cond, ltb, List, [], ◌∷◌, get_or, Option, Some, None, refl, sym, ap, subst, ◌∙◌, arith}
use Rattle.std.specs.Prelude.{◌&&◌, ◌||◌, ◌==◌, nat_le}
use Rattle.std.proofs.lemmas.Bool.{eqb-true, ltb-true, ltb-false, ne_eqb}
use Rattle.sms_text.specs.Tables.{main, extension, escape, code_of, character_of}
use Rattle.sms_text.specs.TextOfSeptets.{plain_character}
use Rattle.sms_text.specs.Inside.Same.{IsSame}

abbrev pub codes : List ℕ
codes = 255 ∷ 255 ∷ 255 ∷ 255 ∷ 255 ∷ 255 ∷ 255 ∷ 255 ∷ 255 ∷ 255 ∷ 10 ∷ 255 ∷ 255 ∷ 13 ∷ 255 ∷ 255 ∷ 255 ∷ 255 ∷ 255 ∷ 255 ∷ 255 ∷ 255 ∷ 255 ∷ 255 ∷ 255 ∷ 255 ∷ 255 ∷ 255 ∷ 255 ∷ 255 ∷ 255 ∷ 255 ∷ 32 ∷ 33 ∷ 34 ∷ 35 ∷ 2 ∷ 37 ∷ 38 ∷ 39 ∷ 40 ∷ 41 ∷ 42 ∷ 43 ∷ 44 ∷ 45 ∷ 46 ∷ 47 ∷ 48 ∷ 49 ∷ 50 ∷ 51 ∷ 52 ∷ 53 ∷ 54 ∷ 55 ∷ 56 ∷ 57 ∷ 58 ∷ 59 ∷ 60 ∷ 61 ∷ 62 ∷ 63 ∷ 0 ∷ 65 ∷ 66 ∷ 67 ∷ 68 ∷ 69 ∷ 70 ∷ 71 ∷ 72 ∷ 73 ∷ 74 ∷ 75 ∷ 76 ∷ 77 ∷ 78 ∷ 79 ∷ 80 ∷ 81 ∷ 82 ∷ 83 ∷ 84 ∷ 85 ∷ 86 ∷ 87 ∷ 88 ∷ 89 ∷ 90 ∷ 255 ∷ 255 ∷ 255 ∷ 255 ∷ 17 ∷ 255 ∷ 97 ∷ 98 ∷ 99 ∷ 100 ∷ 101 ∷ 102 ∷ 103 ∷ 104 ∷ 105 ∷ 106 ∷ 107 ∷ 108 ∷ 109 ∷ 110 ∷ 111 ∷ 112 ∷ 113 ∷ 114 ∷ 115 ∷ 116 ∷ 117 ∷ 118 ∷ 119 ∷ 120 ∷ 121 ∷ 122 ∷ 255 ∷ 255 ∷ 255 ∷ 255 ∷ 255 ∷ 255 ∷ 255 ∷ 255 ∷ 255 ∷ 255 ∷ 255 ∷ 255 ∷ 255 ∷ 255 ∷ 255 ∷ 255 ∷ 255 ∷ 255 ∷ 255 ∷ 255 ∷ 255 ∷ 255 ∷ 255 ∷ 255 ∷ 255 ∷ 255 ∷ 255 ∷ 255 ∷ 255 ∷ 255 ∷ 255 ∷ 255 ∷ 255 ∷ 255 ∷ 255 ∷ 255 ∷ 255 ∷ 255 ∷ 64 ∷ 255 ∷ 1 ∷ 36 ∷ 3 ∷ 255 ∷ 95 ∷ 255 ∷ 255 ∷ 255 ∷ 255 ∷ 255 ∷ 255 ∷ 255 ∷ 255 ∷ 255 ∷ 255 ∷ 255 ∷ 255 ∷ 255 ∷ 255 ∷ 255 ∷ 255 ∷ 255 ∷ 255 ∷ 255 ∷ 255 ∷ 255 ∷ 255 ∷ 255 ∷ 96 ∷ 255 ∷ 255 ∷ 255 ∷ 255 ∷ 91 ∷ 14 ∷ 28 ∷ 9 ∷ 255 ∷ 31 ∷ 255 ∷ 255 ∷ 255 ∷ 255 ∷ 255 ∷ 255 ∷ 255 ∷ 93 ∷ 255 ∷ 255 ∷ 255 ∷ 255 ∷ 92 ∷ 255 ∷ 11 ∷ 255 ∷ 255 ∷ 255 ∷ 94 ∷ 255 ∷ 255 ∷ 30 ∷ 127 ∷ 255 ∷ 255 ∷ 255 ∷ 123 ∷ 15 ∷ 29 ∷ 255 ∷ 4 ∷ 5 ∷ 255 ∷ 255 ∷ 7 ∷ 255 ∷ 255 ∷ 255 ∷ 255 ∷ 125 ∷ 8 ∷ 255 ∷ 255 ∷ 255 ∷ 124 ∷ 255 ∷ 12 ∷ 6 ∷ 255 ∷ 255 ∷ 126 ∷ 255 ∷ 255 ∷ 255 ∷ []

abbrev pub escaped_codes : List ℕ
escaped_codes = 255 ∷ 255 ∷ 255 ∷ 255 ∷ 255 ∷ 255 ∷ 255 ∷ 255 ∷ 255 ∷ 255 ∷ 255 ∷ 255 ∷ 10 ∷ 255 ∷ 255 ∷ 255 ∷ 255 ∷ 255 ∷ 255 ∷ 255 ∷ 255 ∷ 255 ∷ 255 ∷ 255 ∷ 255 ∷ 255 ∷ 255 ∷ 255 ∷ 255 ∷ 255 ∷ 255 ∷ 255 ∷ 255 ∷ 255 ∷ 255 ∷ 255 ∷ 255 ∷ 255 ∷ 255 ∷ 255 ∷ 255 ∷ 255 ∷ 255 ∷ 255 ∷ 255 ∷ 255 ∷ 255 ∷ 255 ∷ 255 ∷ 255 ∷ 255 ∷ 255 ∷ 255 ∷ 255 ∷ 255 ∷ 255 ∷ 255 ∷ 255 ∷ 255 ∷ 255 ∷ 255 ∷ 255 ∷ 255 ∷ 255 ∷ 255 ∷ 255 ∷ 255 ∷ 255 ∷ 255 ∷ 255 ∷ 255 ∷ 255 ∷ 255 ∷ 255 ∷ 255 ∷ 255 ∷ 255 ∷ 255 ∷ 255 ∷ 255 ∷ 255 ∷ 255 ∷ 255 ∷ 255 ∷ 255 ∷ 255 ∷ 255 ∷ 255 ∷ 255 ∷ 255 ∷ 255 ∷ 60 ∷ 47 ∷ 62 ∷ 20 ∷ 255 ∷ 255 ∷ 255 ∷ 255 ∷ 255 ∷ 255 ∷ 255 ∷ 255 ∷ 255 ∷ 255 ∷ 255 ∷ 255 ∷ 255 ∷ 255 ∷ 255 ∷ 255 ∷ 255 ∷ 255 ∷ 255 ∷ 255 ∷ 255 ∷ 255 ∷ 255 ∷ 255 ∷ 255 ∷ 255 ∷ 255 ∷ 255 ∷ 40 ∷ 64 ∷ 41 ∷ 61 ∷ 255 ∷ []

abbrev pub greek : List (ℕ × ℕ)
greek = (16, 916) ∷ (18, 934) ∷ (19, 915) ∷ (20, 923) ∷ (21, 937) ∷ (22, 928) ∷ (23, 936) ∷ (24, 931) ∷ (25, 920) ∷ (26, 926) ∷ []

-- ---- a test of every number below a bound

abbrev pub passes_below : (ℕ → Bool) → ℕ → Bool
passes_below test zero = true
passes_below test (suc n) = test n && passes_below test n

pub both : (a b : Bool) → (a && b) ≡ true → (a ≡ true) × (b ≡ true)
both true true e = (refl, refl)
both true false e = absurd cc
both false b e = absurd cc

last_or_before : (test : ℕ → Bool) (n k : ℕ) (b : Bool) → ltb k n ≡ b → test n ≡ true → (k < n → test k ≡ true) → k < suc n → test k ≡ true
last_or_before test n k true e here before lt = before (ltb-true k n e)
last_or_before test n k false e here before lt = let last : k ≡ n = omega (arith, ltb-false k n e) in subst (λ (m : ℕ). test m ≡ true) (sym last) here

pub each_passes : (test : ℕ → Bool) (n k : ℕ) → passes_below test n ≡ true → k < n → test k ≡ true
each_passes test zero k all lt = absurd (omega arith)
each_passes test (suc n) k all lt = last_or_before test n k (ltb k n) refl (both (test n) (passes_below test n) all).0 (λ (less : k < n). each_passes test n k (both (test n) (passes_below test n) all).1 less) lt

-- ---- the codes that are those of the same characters in ASCII

-- letters, marks and line ends
abbrev pub is_plain : ℕ → Bool
is_plain c =
    ((((nat_le 65 c && nat_le c 90) || (nat_le 97 c && nat_le c 122)) || ((nat_le 32 c && nat_le c 63) && not (c == 36))) || (c == 10 || c == 13))

abbrev same_option : Option ℕ → ℕ → Bool
same_option None n = false
same_option (Some m) n = m == n

some_is : (o : Option ℕ) (n : ℕ) → same_option o n ≡ true → o ≡ Some n
some_is None n e = absurd cc
some_is (Some m) n e = ap (λ (x : ℕ). let r : Option ℕ = Some x in r) (eqb-true m n e)

abbrev same_test : ℕ → Bool
same_test c = cond (is_plain c) (ltb c 128 && (plain_character c == c && (same_option (code_of main c) c && not (c == escape)))) true

same_parts : (c : ℕ) (b : Bool) → is_plain c ≡ b → b ≡ true → cond b (ltb c 128 && (plain_character c == c && (same_option (code_of main c) c && not (c == escape)))) true ≡ true → IsSame c
same_parts c false is e t = absurd cc
same_parts c true is e t =
    let h = both (ltb c 128) _ t in
    let i = both (plain_character c == c) _ h.1 in
    let j = both (same_option (code_of main c) c) _ i.1 in
    record { small = ltb-true c 128 h.0; plain = eqb-true (plain_character c) c i.0; coded = some_is (code_of main c) c j.0; other = not_true (c == escape) j.1 }
  where
    not_true : (b : Bool) → not b ≡ true → b ≡ false
    not_true true e = absurd cc
    not_true false e = refl

pub same_is : (c : ℕ) → c < 256 → is_plain c ≡ true → IsSame c
unfolding character_of code_of
same_is c small is = same_parts c (is_plain c) refl is (each_passes same_test 256 c refl small)

-- ---- the codes by character

abbrev code_or_none : ℕ → Option ℕ
code_or_none code = cond (code == 255) None (Some code)

abbrev agrees : Option ℕ → Option ℕ → Bool
agrees None None = true
agrees (Some m) (Some n) = m == n
agrees _ _ = false

agree : (o p : Option ℕ) → agrees o p ≡ true → o ≡ p
agree None None e = refl
agree None (Some n) e = absurd cc
agree (Some m) None e = absurd cc
agree (Some m) (Some n) e = ap (λ (x : ℕ). let r : Option ℕ = Some x in r) (eqb-true m n e)

abbrev code_test : ℕ → Bool
code_test c = agrees (code_or_none (get_or codes c 0)) (code_of main c)

pub code_is : (c : ℕ) → c < 256 → code_or_none (get_or codes c 0) ≡ code_of main c
unfolding code_of
code_is c small = agree (code_or_none (get_or codes c 0)) (code_of main c) (each_passes code_test 256 c refl small)

-- ---- characters from U+0100 on

abbrev high : List (ℕ × ℕ) → List (ℕ × ℕ)
high [] = []
high (entry ∷ others) = cond (ltb entry.1 256) (high others) (entry ∷ high others)

high_one : (entry : ℕ × ℕ) (others : List (ℕ × ℕ)) (c : ℕ) (b : Bool) → ltb entry.1 256 ≡ b → 256 ≤ c → code_of others c ≡ code_of (high others) c → code_of (entry ∷ others) c ≡ code_of (cond b (high others) (entry ∷ high others)) c
unfolding code_of
high_one entry others c true low big rest =
    let other : (entry.1 == c) ≡ false = ne_eqb entry.1 c (λ same_one. omega (arith, ltb-true entry.1 256 low, same_one)) in
    rw other rest
high_one entry others c false low big rest = ap (cond (entry.1 == c) (Some entry.0)) rest

high_enough : (table : List (ℕ × ℕ)) (c : ℕ) → 256 ≤ c → code_of table c ≡ code_of (high table) c
high_enough [] c big = refl
high_enough (entry ∷ others) c big = high_one entry others c (ltb entry.1 256) refl big (high_enough others c big)

pub greek_is : (c : ℕ) → 256 ≤ c → code_of greek c ≡ code_of main c
greek_is c big = sym (high_enough main c big)

-- ---- what the code does with an entry

pub coded_none : (c : ℕ) → c < 256 → get_or codes c 0 ≡ 255 → None ≡ code_of main c
coded_none c small is = ap code_or_none (sym is) ∙ code_is c small

pub coded_some : (c : ℕ) → c < 256 → get_or codes c 0 ≢ 255 → Some (get_or codes c 0) ≡ code_of main c
coded_some c small other = ap (λ (b : Bool). cond b None (Some (get_or codes c 0))) (sym (ne_eqb (get_or codes c 0) 255 other)) ∙ code_is c small

-- ---- the same of the codes after the escape

abbrev escaped_code_test : ℕ → Bool
escaped_code_test c = agrees (code_or_none (get_or escaped_codes c 0)) (code_of extension c)

escaped_code_is : (c : ℕ) → c < 128 → code_or_none (get_or escaped_codes c 0) ≡ code_of extension c
unfolding code_of
escaped_code_is c small = agree (code_or_none (get_or escaped_codes c 0)) (code_of extension c) (each_passes escaped_code_test 128 c refl small)

pub escaped_none : (c : ℕ) → c < 128 → get_or escaped_codes c 0 ≡ 255 → None ≡ code_of extension c
escaped_none c small is = ap code_or_none (sym is) ∙ escaped_code_is c small

pub escaped_some : (c : ℕ) → c < 128 → get_or escaped_codes c 0 ≢ 255 → Some (get_or escaped_codes c 0) ≡ code_of extension c
escaped_some c small other = ap (λ (b : Bool). cond b None (Some (get_or escaped_codes c 0))) (sym (ne_eqb (get_or escaped_codes c 0) 255 other)) ∙ escaped_code_is c small

passed_over : (entry : ℕ × ℕ) (others : List (ℕ × ℕ)) (c : ℕ) → entry.1 < 128 → 128 ≤ c → code_of (entry ∷ others) c ≡ code_of others c
unfolding code_of
passed_over entry others c low big = rw (ne_eqb entry.1 c (λ same_one. omega (arith, low, same_one))) refl

-- the only entry from U+0080 on is the last
pub euro_is : (c : ℕ) → 128 ≤ c → code_of ((101, 8364) ∷ []) c ≡ code_of extension c
euro_is c big =
    sym (passed_over (10, 12) _ c (omega arith) big ∙ passed_over (20, 94) _ c (omega arith) big ∙ passed_over (40, 123) _ c (omega arith) big ∙ passed_over (41, 125) _ c (omega arith) big ∙ passed_over (47, 92) _ c (omega arith) big
    ∙ passed_over (60, 91) _ c (omega arith) big ∙ passed_over (61, 126) _ c (omega arith) big ∙ passed_over (62, 93) _ c (omega arith) big ∙ passed_over (64, 124) _ c (omega arith) big)

below_greater : (entry : ℕ × ℕ) (others : List (ℕ × ℕ)) (c : ℕ) → entry.1 < c → code_of (entry ∷ others) c ≡ code_of others c
unfolding code_of
below_greater entry others c low = rw (ne_eqb entry.1 c (λ same_one. omega (arith, low, same_one))) refl

no_code : (c : ℕ) → code_of [] c ≡ None
unfolding code_of
no_code c = refl

-- no character of the main table is beyond U+03A9
pub none_beyond : (c : ℕ) → 937 < c → None ≡ code_of main c
none_beyond c big =
    sym (sym (greek_is c (omega arith)) ∙ below_greater (16, 916) _ c (omega arith) ∙ below_greater (18, 934) _ c (omega arith) ∙ below_greater (19, 915) _ c (omega arith) ∙ below_greater (20, 923) _ c (omega arith) ∙ below_greater (21, 937) _ c (omega arith)
    ∙ below_greater (22, 928) _ c (omega arith) ∙ below_greater (23, 936) _ c (omega arith) ∙ below_greater (24, 931) _ c (omega arith) ∙ below_greater (25, 920) _ c (omega arith) ∙ below_greater (26, 926) _ c (omega arith) ∙ no_code c)
