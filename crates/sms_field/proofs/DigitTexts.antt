-- Digits of texts, and texts of digits, one after the other.
use Rattle.std.proofs.Common.{◌≡◌, ℕ, ◌+◌, ◌<◌, ◌≤◌, Bool, true, false, leb, Ok, Err, List, [], ◌∷◌, ◌++◌, length, drop, get_or, Option, Some, None, refl, sym, ap, subst, ◌∙◌, append_assoc, arith, rules, lit<, Bor, MatchOption, ◌≢◌}
use Rattle.std.specs.Prelude.{◌==◌, ◌||◌, Result, is_err, IsOk, OnOk, OnErr}
use Rattle.std.proofs.lemmas.Bool.{eqb-true, leb-true, le-leb}
use Rattle.std.specs.List.{AllByRecursion}
use Rattle.std.proofs.lemmas.List.Elements.{All-from_recursion}
use Rattle.std.proofs.lemmas.List.Quantifiers.{position-Some}
use Rattle.std.proofs.lemmas.List.{append-nil, at_drop_more, drop_all, length-append}
use Rattle.std.proofs.lemmas.Str.{encodes-append, encodes-chars, chars_from_encodes, chars-IsAscii, encode_ascii}
use Rattle.std.proofs.Math.Utf8.{encode, encodes}
use Rattle.std.specs.Str.{chars, IsAscii, IsUtf8}
use Rattle.std.proofs.lemmas.Str.Ascii.{IsAscii-from_all}
use Rattle.sms_field.specs.Address.Text.{few_digits}
use Rattle.sms_field.specs.declared.fault.AddressFault.TheVariants.{AddressTooLong}
use Rattle.sms_field.specs.Address.DigitText.{digit_characters, digit_of_character, character_of_digit, and_digits, digits_of_text, text_of_digits}

-- what was read before, and what is still read
abbrev pub with_digits : List ℕ → Option (List ℕ) → Option (List ℕ)
with_digits front (Some others) = Some (front ++ others)
with_digits front None = None

regroup : (old : List ℕ) (digit : ℕ) (o : Option (List ℕ)) → with_digits old (and_digits (Some digit) o) ≡ with_digits (old ++ digit ∷ []) o
regroup old digit (Some others) = ap (λ (l : List ℕ). let r : Option (List ℕ) = Some l in r) (sym (append_assoc old (digit ∷ []) others))
regroup old digit None = refl

next : (cs : List ℕ) (i c : ℕ) → (i < length cs) × (c ≡ get_or cs i c) → digits_of_text (drop i cs) ≡ and_digits (digit_of_character c) (digits_of_text (drop (i + 1) cs))
unfolding digits_of_text
next cs i c at = at_drop_more digits_of_text cs i c at.0 ∙ ap (λ (x : ℕ). and_digits (digit_of_character x) (digits_of_text (drop (i + 1) cs))) (sym at.1)

pub one_more_digit : (cs : List ℕ) (i c digit : ℕ) (old new : List ℕ) (total : Option (List ℕ)) → (i < length cs) × (c ≡ get_or cs i c) → digit_of_character c ≡ Some digit → new ≡ old ++ digit ∷ [] → with_digits old (digits_of_text (drop i cs)) ≡ total → with_digits new (digits_of_text (drop (i + 1) cs)) ≡ total
one_more_digit cs i c digit old new total at is e so_far =
    let rest : Option (List ℕ) = digits_of_text (drop (i + 1) cs) in
    ap (λ (l : List ℕ). with_digits l rest) e ∙ sym (regroup old digit rest) ∙ ap (λ (o : Option ℕ). with_digits old (and_digits o rest)) (sym is) ∙ ap (with_digits old) (sym (next cs i c at)) ∙ so_far

pub no_digit : (cs : List ℕ) (i c : ℕ) (old : List ℕ) (total : Option (List ℕ)) → (i < length cs) × (c ≡ get_or cs i c) → digit_of_character c ≡ None → with_digits old (digits_of_text (drop i cs)) ≡ total → total ≡ None
no_digit cs i c old total at is so_far = sym so_far ∙ ap (with_digits old) (next cs i c at ∙ ap (λ (o : Option ℕ). and_digits o (digits_of_text (drop (i + 1) cs))) is)

pub no_character_left : (cs : List ℕ) (i : ℕ) (old : List ℕ) (total : Option (List ℕ)) → length cs ≤ i → with_digits old (digits_of_text (drop i cs)) ≡ total → total ≡ Some old
unfolding digits_of_text
no_character_left cs i old total le so_far = sym so_far ∙ ap (λ (l : List ℕ). with_digits old (digits_of_text l)) (drop_all i cs le) ∙ ap (λ (l : List ℕ). let r : Option (List ℕ) = Some l in r) (append-nil old)

-- the digits that were read are kept, unless they are more than 20
abbrev pub AreKept : Bool → List ℕ → List ℕ → Type 0
AreKept false read kept = (kept ≡ read) × (length read ≤ 20)
AreKept true read kept = 20 < length read

-- the characters of a text to which one is added
pub chars_pushed : (old new : List ℕ) (c : ℕ) → IsUtf8 old → IsUtf8 new → new ≡ old ++ encode c → chars new ≡ chars old ++ c ∷ []
chars_pushed old new c before after e =
    let spelled : encodes (chars old ++ c ∷ []) ≡ new = encodes-append (chars old) (c ∷ []) ∙ ap (λ (l : List ℕ). l ++ encodes (c ∷ [])) (encodes-chars old before) ∙ ap (λ (l : List ℕ). old ++ l) (append-nil (encode c)) ∙ sym e in
    sym (chars_from_encodes (chars old ++ c ∷ []) new after spelled)

pub digit_shown : (old new xs : List ℕ) (i : ℕ) (total : List ℕ) → i < length xs → IsUtf8 old → IsUtf8 new → new ≡ old ++ encode (character_of_digit (get_or xs i 0)) → chars old ++ text_of_digits (drop i xs) ≡ total → chars new ++ text_of_digits (drop (i + 1) xs) ≡ total
digit_shown old new xs i total lt before after e so_far =
    let shown : ℕ = character_of_digit (get_or xs i 0) in
    let rest : List ℕ = text_of_digits (drop (i + 1) xs) in
    ap (λ (l : List ℕ). l ++ rest) (chars_pushed old new shown before after e) ∙ append_assoc (chars old) (shown ∷ []) rest ∙ ap (λ (l : List ℕ). chars old ++ l) (sym (at_drop_more text_of_digits xs i 0 lt)) ∙ so_far

pub all_shown : (old xs : List ℕ) (i : ℕ) (total : List ℕ) → length xs ≤ i → old ++ text_of_digits (drop i xs) ≡ total → old ≡ total
all_shown old xs i total le so_far = sym (ap (λ (l : List ℕ). old ++ text_of_digits l) (drop_all i xs le) ∙ append-nil old) ∙ so_far

-- a text that begins with +
pub plus_first : (bs : List ℕ) → chars (43 ∷ bs) ≡ 43 ∷ chars bs
unfolding chars
plus_first [] = refl
plus_first (b ∷ bs) = refl

pub plus_front : (bs : List ℕ) → IsUtf8 bs → (r : Option (Bor (List ℕ))) → MatchOption r ((rest : List ℕ) → bs ≢ 43 ∷ rest) (λ x. bs ≡ 43 ∷ x.now) → MatchOption r ((rest : List ℕ) → chars bs ≢ 43 ∷ rest) (λ x. chars bs ≡ 43 ∷ chars x.now)
plus_front bs utf8 (Some x) h = ap chars h ∙ plus_first x.now
plus_front bs utf8 None h = λ rest e. h (encodes rest) (sym (encodes-chars bs utf8) ∙ ap encodes e ∙ ap (λ (l : List ℕ). l ++ encodes rest) (encode_ascii 43 (lit< tt)))

-- digits of a text are digits
are_digits : (o : Option ℕ) (more : Option (List ℕ)) (digits : List ℕ) → ((digit : ℕ) → o ≡ Some digit → digit < 15) → ((others : List ℕ) → more ≡ Some others → AllByRecursion (λ digit. digit < 15) others) → and_digits o more ≡ Some digits → AllByRecursion (λ digit. digit < 15) digits
are_digits (Some digit) (Some others) digits one many e =
    let same : digit ∷ others ≡ digits = cc in
    subst (AllByRecursion (λ (digit : ℕ). digit < 15)) same (one digit refl, many others refl)
are_digits (Some digit) None digits one many e = absurd cc
are_digits None more digits one many e = absurd cc

pub digits_are_small : (text digits : List ℕ) → digits_of_text text ≡ Some digits → AllByRecursion (λ digit. digit < 15) digits
unfolding digits_of_text digit_of_character
digits_are_small [] digits e = let none : [] ≡ digits = cc in subst (AllByRecursion (λ (digit : ℕ). digit < 15)) none tt
digits_are_small (c ∷ text) digits e =
    are_digits (digit_of_character c) (digits_of_text text) digits (λ digit is. (position-Some (λ known. known == c) digit_characters digit 0 is).0) (λ others is. digits_are_small text others is) e

-- ---- up to 20 of them

-- what a push onto those that are kept answered
pub is_added : {T E : Type 0} (r : Result T E) (full : Bool) (n room : ℕ) (Added : Type 0) → full ≡ is_err r → (IsOk r → n < room) → OnOk r Added → full ≡ false → (n < room) × Added
is_added (Ok x) full n room Added e less added was = (less refl, added)
is_added (Err why) full n room Added e less added was = absurd cc

pub is_full : {T E : Type 0} (r : Result T E) (full : Bool) (P : Type 0) → full ≡ is_err r → OnErr r P → full ≡ true → P
is_full (Ok x) full P e h was = absurd cc
is_full (Err why) full P e h was = h

pub one_kept : (old full : Bool) (read kept new : List ℕ) (digit : ℕ) → AreKept old read kept → (full ≡ false → (length kept < 20) × (new ≡ kept ++ digit ∷ [])) → (full ≡ true → length kept ≡ 20) → AreKept (old || full) (read ++ digit ∷ []) new
one_kept true full read kept new digit are ok err = omega (arith, are, length-append read (digit ∷ []))
one_kept false false read kept new digit are ok err = ((ok refl).1 ∙ ap (λ (l : List ℕ). l ++ digit ∷ []) are.0, omega (arith, (ok refl).0, ap length are.0, length-append read (digit ∷ [])))
one_kept false true read kept new digit are ok err = omega (arith, err refl, ap length are.0, length-append read (digit ∷ []))

too_long : (n : ℕ) (b : Bool) → leb n 20 ≡ b → 20 < n → b ≡ false
too_long n true is more = absurd (omega (arith, leb-true n 20 is))
too_long n false is more = refl

pub too_many_digits : (total : Option (List ℕ)) (read kept : List ℕ) (long : Bool) → total ≡ Some read → long ≡ true → AreKept long read kept → Err AddressTooLong ≡ few_digits total
too_many_digits total read kept true e is are = let t : leb (length read) 20 ≡ false = too_long (length read) _ refl are in rw (e, t) refl
too_many_digits total read kept false e is are = absurd cc

pub few_kept : (total : Option (List ℕ)) (read kept : List ℕ) (long : Bool) → total ≡ Some read → long ≡ false → AreKept long read kept → (length kept ≤ 20) × (total ≡ Some kept) × (Ok kept ≡ few_digits total)
few_kept total read kept true e is are = absurd cc
few_kept total read kept false e is are =
    let few : length kept ≤ 20 = omega (arith, are.1, ap length are.0) in
    let same : total ≡ Some kept = e ∙ ap (λ (l : List ℕ). let r : Option (List ℕ) = Some l in r) (sym are.0) in
    let t : leb (length kept) 20 ≡ true = le-leb (length kept) 20 few in
    (few, same, rw (same, t) refl)

-- ---- texts of which each octet is a digit

of_both : {P Q : Type 0} (o : Option ℕ) (more : Option (List ℕ)) (digits : List ℕ) → ((digit : ℕ) → o ≡ Some digit → P) → ((others : List ℕ) → more ≡ Some others → Q) → and_digits o more ≡ Some digits → P × Q
of_both (Some digit) (Some others) digits one many e = (one digit refl, many others refl)
of_both (Some digit) None digits one many e = absurd cc
of_both None more digits one many e = absurd cc

-- their characters are those of ASCII
known_small : IsAscii digit_characters
known_small = IsAscii-from_all digit_characters (search rules)

small_digit : (c digit : ℕ) → digit_of_character c ≡ Some digit → c < 128
unfolding digit_of_character
small_digit c digit is =
    let found = position-Some (λ known. known == c) digit_characters digit 0 is in
    subst (λ (n : ℕ). n < 128) (eqb-true (get_or digit_characters digit 0) c found.1) (known_small digit)

small_digits : (text digits : List ℕ) → digits_of_text text ≡ Some digits → AllByRecursion (λ c. c < 128) text
unfolding digits_of_text
small_digits [] digits e = tt
small_digits (c ∷ text) digits e =
    of_both (digit_of_character c) (digits_of_text text) digits (λ digit is. small_digit c digit is) (λ others is. small_digits text others is) e

pub digits_are_ascii : (text digits : List ℕ) → digits_of_text text ≡ Some digits → IsAscii text
digits_are_ascii text digits is = IsAscii-from_all text (All-from_recursion (λ b. b < 128) text (small_digits text digits is))

pub plain_text : (bs digits : List ℕ) → digits_of_text bs ≡ Some digits → length digits ≤ 20 → Ok digits ≡ few_digits (digits_of_text (chars bs))
plain_text bs digits is few =
    let same : chars bs ≡ bs = chars-IsAscii bs (digits_are_ascii bs digits is) in
    let t : leb (length digits) 20 ≡ true = le-leb (length digits) 20 few in
    rw (same, is, t) refl
