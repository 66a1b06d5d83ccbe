-- Texts that end no line.
use Rattle.std.proofs.Common.{◌≡◌, ℕ, ◌+◌, ◌/◌, ◌%◌, ◌^◌, ◌<◌, ◌≤◌, Bool, true, false, not, ◌&&◌, ◌||◌, ◌==◌, nat_lt, List, [], ◌∷◌, ◌++◌, slice_index, length, decimal, codes, refl, ap, sym, subst, ◌∙◌, arith, ◌⊎◌, inl, inr, ⊎_elim, if◌then◌else◌}
use Rattle.std.specs.Prelude.{⊤}
use Rattle.std.specs.List.{list_all}
use Rattle.std.proofs.lemmas.Bool.{agree_below_at, ne_eqb, le-ltb, or_from, and_parts, and_from, cases_Bool, ltb-true, ltb-false}
use Rattle.std.proofs.lemmas.List.{get_or_past}
use Rattle.std.proofs.lemmas.Fmt.{decimal_by_steps}
use Rattle.hex.specs.Hex.{encode_with, encode_upper, upper_digits}
use Rattle.sms_page.specs.Plain.{is_stop, is_plain}
use Rattle.sms_page.specs.Page.{maybe, quoted, named, hexadecimal}
use Rattle.sms_page.specs.Escapes.{escape, escaped, json, line}
use Rattle.sms_page.specs.Object.{Token, token_text, texts, begins, ends, object, end_object, list, end_list, name, value}
use Rattle.sms_page.specs.Inside.EscapeRules.{plain_parts, json_rule, line_rule}
use Rattle.sms_answer.specs.Text.{IsInLine, is_in_line}

order : (x n : ℕ) → (x < n) ⊎ (n ≤ x)
order x n = ⊎_elim (λ e. inl (ltb-true x n e)) (λ e. inr (ltb-false x n e)) (cases_Bool (nat_lt x n))

pub all-append : (p : ℕ → Bool) (xs ys : List ℕ) → list_all p xs ≡ true → list_all p ys ≡ true → list_all p (xs ++ ys) ≡ true
all-append p [] ys a b = b
all-append p (x ∷ xs) ys a b =
    let parts = and_parts (p x) (list_all p xs) a in and_from (p x) (list_all p (xs ++ ys)) parts.0 (all-append p xs ys parts.1 b)

-- no control character
from_blank : (x : ℕ) → 32 ≤ x → is_in_line x ≡ true
from_blank x h = ap not (ne_eqb x 10 (λ e. omega (arith, h, e)))

-- what no text escapes
pub plain_in_line : (text : List ℕ) → list_all (is_plain 34) text ≡ true → IsInLine text
plain_in_line [] all = refl
plain_in_line (x ∷ text) all =
    let parts = and_parts (is_plain 34 x) (list_all (is_plain 34) text) all in
    and_from (is_in_line x) (list_all is_in_line text) (from_blank x (plain_parts 34 x parts.0).0) (plain_in_line text parts.1)

-- ---- escapes

far_is_plain : (other x : ℕ) → other < 128 → 128 ≤ x → is_plain other x ≡ true
far_is_plain other x small far =
    ap not (or_from (nat_lt x 32 || (x == 92)) (x == other)
    (or_from (nat_lt x 32) (x == 92) (le-ltb x 32 (omega (arith, far))) (ne_eqb x 92 (λ e. omega (arith, far, e))))
    (ne_eqb x other (λ e. omega (arith, small, far, e))))

abbrev json_test : ℕ → Bool
json_test x = list_all is_in_line (escape json x)

abbrev line_test : ℕ → Bool
line_test x = list_all is_in_line (escape line x)

json_escape : (x : ℕ) → IsInLine (escape json x)
json_escape x = ⊎_elim near far (order x 128) where
  near : x < 128 → IsInLine (escape json x)
  near h = agree_below_at json_test (λ _. true) 128 x refl h

  far : 128 ≤ x → IsInLine (escape json x)
  far h =
      ap (list_all is_in_line) (json_rule.letters x (far_is_plain 34 x (omega arith) h))
      ∙ and_from (is_in_line x) true (from_blank x (omega (arith, h))) refl

line_escape : (x : ℕ) → IsInLine (escape line x)
line_escape x = ⊎_elim near far (order x 128) where
  near : x < 128 → IsInLine (escape line x)
  near h = agree_below_at line_test (λ _. true) 128 x refl h

  far : 128 ≤ x → IsInLine (escape line x)
  far h =
      ap (list_all is_in_line) (line_rule.letters x (far_is_plain 127 x (omega arith) h))
      ∙ and_from (is_in_line x) true (from_blank x (omega (arith, h))) refl

pub json_in_line : (text : List ℕ) → IsInLine (escaped json text)
unfolding escaped
json_in_line [] = refl
json_in_line (x ∷ text) = all-append is_in_line (escape json x) (escaped json text) (json_escape x) (json_in_line text)

pub line_in_line : (text : List ℕ) → IsInLine (escaped line text)
unfolding escaped
line_in_line [] = refl
line_in_line (x ∷ text) = all-append is_in_line (escape line x) (escaped line text) (line_escape x) (line_in_line text)

-- ---- digits

pub decimal_in_line : (n : ℕ) → n < 2 ^ 64 → IsInLine (decimal n)
decimal_in_line n h =
    decimal_by_steps (λ m ds. IsInLine ds) (λ m l. and_from (is_in_line (48 + m)) true (from_blank (48 + m) (omega arith)) refl)
    (λ m ds l i. all-append is_in_line ds ((48 + m % 10) ∷ []) i (and_from (is_in_line (48 + m % 10)) true (from_blank (48 + m % 10) (omega arith)) refl)) n h

abbrev digit_test : ℕ → Bool
digit_test i = is_in_line (slice_index upper_digits i)

digit_in_line : (i : ℕ) → is_in_line (slice_index upper_digits i) ≡ true
digit_in_line i = ⊎_elim near far (order i 16) where
  near : i < 16 → is_in_line (slice_index upper_digits i) ≡ true
  near h = agree_below_at digit_test (λ _. true) 16 i refl h

  far : 16 ≤ i → is_in_line (slice_index upper_digits i) ≡ true
  far h = ap is_in_line (get_or_past upper_digits i 0 h)

pub upper_in_line : (octets : List ℕ) → IsInLine (encode_upper octets)
unfolding encode_with
upper_in_line [] = refl
upper_in_line (x ∷ octets) =
    and_from (is_in_line (slice_index upper_digits (x / 16))) _ (digit_in_line (x / 16))
    (and_from (is_in_line (slice_index upper_digits (x % 16))) _ (digit_in_line (x % 16)) (upper_in_line octets))

pub hexadecimal_in_line : (octets : List ℕ) → IsInLine (hexadecimal octets)
hexadecimal_in_line [] = refl
hexadecimal_in_line (x ∷ octets) = upper_in_line (x ∷ octets)

-- ---- names and quotes

pub name_in_line : (text : List ℕ) → list_all (is_plain 34) text ≡ true → IsInLine (named text)
name_in_line text plain = all-append is_in_line text (58 ∷ 32 ∷ []) (plain_in_line text plain) refl

pub maybe_in_line : (is_wanted : Bool) (octet : ℕ) → is_in_line octet ≡ true → IsInLine (maybe is_wanted octet)
maybe_in_line true octet h = and_from (is_in_line octet) true h refl
maybe_in_line false octet h = refl

pub quoted_in_line : (comma : Bool) (text : List ℕ) (colon : Bool) → IsInLine text → IsInLine (quoted comma text colon)
quoted_in_line comma text colon h =
    let first = all-append is_in_line (maybe comma 44) (34 ∷ []) (maybe_in_line comma 44 refl) refl in
    let inside = all-append is_in_line (maybe comma 44 ++ (34 ∷ [])) text first h in
    let last = all-append is_in_line ((maybe comma 44 ++ (34 ∷ [])) ++ text) (34 ∷ []) inside refl in
    all-append is_in_line (((maybe comma 44 ++ (34 ∷ [])) ++ text) ++ (34 ∷ [])) (maybe colon 58) last (maybe_in_line colon 58 refl)

-- ---- tokens

-- each value stands in a line; names always do
abbrev pub AreInLine : List Token → Type 0
AreInLine [] = ⊤
AreInLine (value text ∷ tokens) = IsInLine text × AreInLine tokens
AreInLine (object ∷ tokens) = AreInLine tokens
AreInLine (end_object ∷ tokens) = AreInLine tokens
AreInLine (list ∷ tokens) = AreInLine tokens
AreInLine (end_list ∷ tokens) = AreInLine tokens
AreInLine (name text ∷ tokens) = AreInLine tokens

one_token : (comma : Bool) (token : Token) → IsInLine (token_text token) → IsInLine (maybe comma 44 ++ token_text token)
one_token comma token h = all-append is_in_line (maybe comma 44) (token_text token) (maybe_in_line comma 44 refl) h

then_texts : (h : Bool) (token : Token) (tokens : List Token) → IsInLine (token_text token) → IsInLine (texts (ends token) tokens) → IsInLine (texts h (token ∷ tokens))
unfolding texts
then_texts h token tokens a b =
    all-append is_in_line (maybe (h && begins token) 44 ++ token_text token) (texts (ends token) tokens) (one_token (h && begins token) token a) b

pub texts_in_line : (h : Bool) (tokens : List Token) → AreInLine tokens → IsInLine (texts h tokens)
unfolding texts
texts_in_line h [] are = refl
texts_in_line h (object ∷ tokens) are = then_texts h object tokens refl (texts_in_line false tokens are)
texts_in_line h (end_object ∷ tokens) are = then_texts h end_object tokens refl (texts_in_line true tokens are)
texts_in_line h (list ∷ tokens) are = then_texts h list tokens refl (texts_in_line false tokens are)
texts_in_line h (end_list ∷ tokens) are = then_texts h end_list tokens refl (texts_in_line true tokens are)
texts_in_line h (name text ∷ tokens) are =
    then_texts h (name text) tokens (quoted_in_line false (escaped json text) true (json_in_line text)) (texts_in_line false tokens are)
texts_in_line h (value text ∷ tokens) are = then_texts h (value text) tokens are.0 (texts_in_line true tokens are.1)

pub flag_in_line : (flag : Bool) → IsInLine (if flag then codes "true" else codes "false")
flag_in_line true = refl
flag_in_line false = refl
