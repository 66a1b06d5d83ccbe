-- What is put is read back.
use Rattle.std.proofs.Common.{◌≡◌, ℕ, ◌+◌, ◌*◌, ◌/◌, ◌%◌, ◌<◌, Bool, true, false, not, ◌||◌, ◌&&◌, ◌==◌, nat_lt, eqb, List, [], ◌∷◌, ◌++◌, slice_index, codes, Option, Some, None, Ok, unwrap_or, refl, ap, ◌∙◌, arith}
use Rattle.std.specs.List.{list_all}
use Rattle.std.proofs.lemmas.Bool.{agree_below_at, eqb-true, ne_eqb, le-ltb, or_from, cond-true, cond-false, and_parts, and_from, not-true}
use Rattle.hex.specs.Hex.{encode_with, encode_upper, is_hex_digit, upper_digits}
use Rattle.sms_page.specs.Plain.{is_stop, is_plain}
use Rattle.sms_page.specs.Hexadecimal.{number_of, octets_from, octets_of, in_front}
use Rattle.sms_page.specs.Escapes.{escape, escaped, json, json_letter, line, line_letter, two_lower}
use Rattle.sms_page.specs.ReadBack.{between, read_before, meant_before, code_of, json_meaning, read_json, line_meaning, read_line, stays_in_line, AreOctets}
use Rattle.sms_page.specs.Inside.EscapeRules.{plain_parts, json_rule, line_rule}

-- a meaning that is found
found : (o : Option ℕ) (x : ℕ) → x < 256 → eqb (unwrap_or o 256) x ≡ true → o ≡ Some x
found None x h e = absurd (omega (arith, h, eqb-true 256 x e))
found (Some y) x h e = ap Some (eqb-true y x e)

past : (a b : Bool) → a ≡ true → (not a || b) ≡ true → b ≡ true
past true b h e = e
past false b h e = absurd cc

past_two : (a b c : Bool) → a ≡ false → b ≡ true → (a || not b || c) ≡ true → c ≡ true
past_two true b c h k e = absurd cc
past_two false true c h k e = e
past_two false false c h k e = absurd cc

-- ---- JSON

abbrev json_letters : ℕ → Bool
json_letters x = not (nat_lt 0 (json_letter x)) || (not (eqb (json_letter x) 117) && eqb (unwrap_or (json_meaning (json_letter x)) 256) x)

abbrev json_codes : ℕ → Bool
json_codes x = nat_lt 0 (json_letter x) || not (is_stop 34 x) || eqb (unwrap_or (code_of (48 ∷ 48 ∷ two_lower x) 0) 256) x

json_by_letter : (x : ℕ) (rest : List ℕ) → x < 256 → nat_lt 0 (json_letter x) ≡ true → read_json between (92 ∷ json_letter x ∷ rest) ≡ read_before x (read_json between rest)
unfolding read_json
json_by_letter x rest h letter =
    let parts = and_parts _ _ (past (nat_lt 0 (json_letter x)) _ letter (agree_below_at json_letters (λ _. true) 256 x refl h)) in
    cond-false _ _ _ (not-true _ parts.0) ∙ ap (λ (o : Option ℕ). meant_before o (read_json between rest)) (found (json_meaning (json_letter x)) x h parts.1)

json_by_code : (x : ℕ) (rest : List ℕ) → x < 256 → nat_lt 0 (json_letter x) ≡ false → is_stop 34 x ≡ true → read_json between ((codes "\\u00" ++ two_lower x) ++ rest) ≡ read_before x (read_json between rest)
unfolding read_json
json_by_code x rest h none stop =
    ap (λ (o : Option ℕ). meant_before o (read_json between rest)) (found (code_of (48 ∷ 48 ∷ two_lower x) 0) x h (past_two _ _ _ none stop (agree_below_at json_codes (λ _. true) 256 x refl h)))

json_one : (x : ℕ) (rest : List ℕ) → x < 256 → read_json between (escape json x ++ rest) ≡ read_before x (read_json between rest)
unfolding read_json
json_one x rest h = by_letter (nat_lt 0 (json_letter x)) refl where
  by_stop : (b : Bool) → nat_lt 0 (json_letter x) ≡ false → is_stop 34 x ≡ b → read_json between (escape json x ++ rest) ≡ read_before x (read_json between rest)
  by_stop true none stop = ap (λ (l : List ℕ). read_json between (l ++ rest)) (cond-false _ _ _ none ∙ cond-true _ _ _ stop) ∙ json_by_code x rest h none stop
  by_stop false none stop =
      let plain : is_plain 34 x ≡ true = ap not stop in
      let is = plain_parts 34 x plain in
      ap (λ (l : List ℕ). read_json between (l ++ rest)) (json_rule.letters x plain)
      ∙ cond-false _ _ _ (ne_eqb x 92 is.1) ∙ cond-false _ _ _ (or_from (x == 34) (nat_lt x 32) (ne_eqb x 34 is.2) (le-ltb x 32 is.0))

  by_letter : (b : Bool) → nat_lt 0 (json_letter x) ≡ b → read_json between (escape json x ++ rest) ≡ read_before x (read_json between rest)
  by_letter true letter = ap (λ (l : List ℕ). read_json between (l ++ rest)) (cond-true _ _ _ letter) ∙ json_by_letter x rest h letter
  by_letter false none = by_stop (is_stop 34 x) none refl

pub json_reads_back : (text : List ℕ) → AreOctets text → read_json between (escaped json text) ≡ Some text
unfolding escaped read_json
json_reads_back [] octets = refl
json_reads_back (x ∷ text) octets = json_one x (escaped json text) octets.0 ∙ ap (read_before x) (json_reads_back text octets.1)

-- ---- lines

abbrev line_letters : ℕ → Bool
line_letters x = not (nat_lt 0 (line_letter x)) || (not (eqb (line_letter x) 120) && eqb (unwrap_or (line_meaning (line_letter x)) 256) x)

abbrev line_codes : ℕ → Bool
line_codes x = nat_lt 0 (line_letter x) || not (is_stop 127 x) || eqb (unwrap_or (code_of (two_lower x) 0) 256) x

line_by_letter : (x : ℕ) (rest : List ℕ) → x < 256 → nat_lt 0 (line_letter x) ≡ true → read_line between (92 ∷ line_letter x ∷ rest) ≡ read_before x (read_line between rest)
unfolding read_line
line_by_letter x rest h letter =
    let parts = and_parts _ _ (past (nat_lt 0 (line_letter x)) _ letter (agree_below_at line_letters (λ _. true) 256 x refl h)) in
    cond-false _ _ _ (not-true _ parts.0) ∙ ap (λ (o : Option ℕ). meant_before o (read_line between rest)) (found (line_meaning (line_letter x)) x h parts.1)

line_by_code : (x : ℕ) (rest : List ℕ) → x < 256 → nat_lt 0 (line_letter x) ≡ false → is_stop 127 x ≡ true → read_line between ((codes "\\x" ++ two_lower x) ++ rest) ≡ read_before x (read_line between rest)
unfolding read_line
line_by_code x rest h none stop =
    ap (λ (o : Option ℕ). meant_before o (read_line between rest)) (found (code_of (two_lower x) 0) x h (past_two _ _ _ none stop (agree_below_at line_codes (λ _. true) 256 x refl h)))

line_one : (x : ℕ) (rest : List ℕ) → x < 256 → read_line between (escape line x ++ rest) ≡ read_before x (read_line between rest)
unfolding read_line
line_one x rest h = by_letter (nat_lt 0 (line_letter x)) refl where
  by_stop : (b : Bool) → nat_lt 0 (line_letter x) ≡ false → is_stop 127 x ≡ b → read_line between (escape line x ++ rest) ≡ read_before x (read_line between rest)
  by_stop true none stop = ap (λ (l : List ℕ). read_line between (l ++ rest)) (cond-false _ _ _ none ∙ cond-true _ _ _ stop) ∙ line_by_code x rest h none stop
  by_stop false none stop =
      let plain : is_plain 127 x ≡ true = ap not stop in
      let is = plain_parts 127 x plain in
      ap (λ (l : List ℕ). read_line between (l ++ rest)) (line_rule.letters x plain)
      ∙ cond-false _ _ _ (ne_eqb x 92 is.1) ∙ cond-false _ _ _ (or_from (nat_lt x 32) (x == 127) (le-ltb x 32 is.0) (ne_eqb x 127 is.2))

  by_letter : (b : Bool) → nat_lt 0 (line_letter x) ≡ b → read_line between (escape line x ++ rest) ≡ read_before x (read_line between rest)
  by_letter true letter = ap (λ (l : List ℕ). read_line between (l ++ rest)) (cond-true _ _ _ letter) ∙ line_by_letter x rest h letter
  by_letter false none = by_stop (is_stop 127 x) none refl

pub line_reads_back : (text : List ℕ) → AreOctets text → read_line between (escaped line text) ≡ Some text
unfolding escaped read_line
line_reads_back [] octets = refl
line_reads_back (x ∷ text) octets = line_one x (escaped line text) octets.0 ∙ ap (read_before x) (line_reads_back text octets.1)

list_all-append : (p : ℕ → Bool) (xs ys : List ℕ) → list_all p xs ≡ true → list_all p ys ≡ true → list_all p (xs ++ ys) ≡ true
list_all-append p [] ys a b = b
list_all-append p (x ∷ xs) ys a b =
    let parts = and_parts (p x) (list_all p xs) a in and_from (p x) (list_all p (xs ++ ys)) parts.0 (list_all-append p xs ys parts.1 b)

abbrev escape_stays : ℕ → Bool
escape_stays x = list_all stays_in_line (escape line x)

pub stays : (text : List ℕ) → AreOctets text → list_all stays_in_line (escaped line text) ≡ true
unfolding escaped
stays [] octets = refl
stays (x ∷ text) octets = list_all-append stays_in_line (escape line x) (escaped line text) (agree_below_at escape_stays (λ _. true) 256 x refl octets.0) (stays text octets.1)

-- ---- digits

abbrev high : ℕ → ℕ
high x = slice_index upper_digits (x / 16)

abbrev low : ℕ → ℕ
low x = slice_index upper_digits (x % 16)

abbrev digits_test : ℕ → Bool
digits_test x = is_hex_digit (high x) && (is_hex_digit (low x) && eqb (number_of (high x) * 16 + number_of (low x)) x)

digits_from : (b : Bool) (at : ℕ) (octets : List ℕ) → AreOctets octets → octets_from b None at (encode_upper octets) ≡ Ok octets
unfolding octets_from encode_with
digits_from b at [] octets = refl
digits_from b at (x ∷ xs) octets =
    let first = and_parts (is_hex_digit (high x)) _ (agree_below_at digits_test (λ _. true) 256 x refl octets.0) in
    let second = and_parts (is_hex_digit (low x)) _ first.1 in
    cond-true (is_hex_digit (high x)) _ _ first.0 ∙ cond-true (is_hex_digit (low x)) _ _ second.0
    ∙ ap (in_front (number_of (high x) * 16 + number_of (low x))) (digits_from b (at + 1 + 1) xs octets.1)
    ∙ ap (λ (n : ℕ). in_front n (Ok xs)) (eqb-true _ x second.1)

pub digits_read_back : (b : Bool) (octets : List ℕ) → AreOctets octets → octets_of b (encode_upper octets) ≡ Ok octets
digits_read_back b octets are = digits_from b 0 octets are
