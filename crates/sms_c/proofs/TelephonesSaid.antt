-- Texts whose octets are digits.
use Rattle.std.proofs.Common.{◌≡◌, ℕ, ◌-◌, ◌<◌, ◌≤◌, true, false, Bool, leb, Err, List, [], ◌∷◌, length, take, drop, get_or, Option, Some, None, Ok, Result, refl, sym, ap, subst, ◌∙◌, arith}
use Rattle.std.specs.Prelude.{◌==◌, if◌then◌else◌, IfSome}
use Rattle.std.specs.Str.{chars, IsAscii, IsUtf8}
use Rattle.std.proofs.lemmas.Bool.{le-leb, eqb-true}
use Rattle.std.proofs.lemmas.List.{take_all}
use Rattle.std.proofs.lemmas.List.Elements.{All-from_recursion, recursion_from_All}
use Rattle.std.proofs.lemmas.Str.{chars-IsAscii, IsUtf8-from_ascii, is_utf8-from_IsUtf8}
use Rattle.std.proofs.lemmas.Str.Ascii.{IsAscii-from_all, All-from_ascii}
use Rattle.sms_text.specs.SeptetsOfText.{septets_of_text}
use Rattle.sms_field.specs.Address.DigitText.{digit_of_character, digits_of_text}
use Rattle.sms_field.specs.Address.Text.{address_of_text, few_digits, telephone_of, telephone_or_name, name_of, without_plus}
use Rattle.sms_field.specs.Address.Value.{AddressValue}
use Rattle.sms_field.specs.declared.fault.AddressFault.{AddressFault}
use Rattle.sms_c.specs.AddressGiven.{address_given}

-- up to 20 digits that were read are those of the text
pub few_read : (text digits : List ℕ) → digits_of_text text ≡ Some digits → length digits ≤ 20 → few_digits (digits_of_text text) ≡ Ok digits
few_read text digits is few = let within : leb (length digits) 20 ≡ true = le-leb (length digits) 20 few in rw (is, within) refl

-- ---- said

-- the text is UTF-8 and says the address
abbrev pub Says : List ℕ → AddressValue → Type 0
Says text address = IsUtf8 text × (address_of_text (chars text) ≡ Ok address)

in_ascii : (text : List ℕ) (address : AddressValue) → IsAscii text → address_of_text text ≡ Ok address → Says text address
in_ascii text address ascii says = (IsUtf8-from_ascii text ascii, ap address_of_text (chars-IsAscii text ascii) ∙ says)

or_name : (read : Result (List ℕ) AddressFault) (named : Result AddressValue AddressFault) (address : AddressValue) → telephone_of 0 read ≡ Ok address → telephone_or_name read named ≡ Ok address
or_name (Ok digits) named address e = e
or_name (Err why) named address e = absurd cc

refused : {P : Type 0} (why : AddressFault) (address : AddressValue) → Err why ≡ Ok address → P
refused why address e = absurd cc

first_of : (text : List ℕ) (c : ℕ) → 1 ≤ length text → get_or text 0 0 ≡ c → text ≡ c ∷ take (length text - 1) (drop 1 text)
first_of [] c some is = absurd (omega (arith, some))
first_of (x ∷ text) c some is = ap (λ (n : ℕ). n ∷ text) is ∙ ap (λ (l : List ℕ). c ∷ l) (sym (take_all (length (x ∷ text) - 1) text (omega arith)))

alone : (text : List ℕ) (address : AddressValue) → telephone_of 0 (few_digits (digits_of_text text)) ≡ Ok address → without_plus text ≡ Ok address
alone text address e = or_name (few_digits (digits_of_text text)) (name_of (septets_of_text text)) address e

no_plus : (text : List ℕ) (address : AddressValue) → telephone_of 0 (few_digits (digits_of_text text)) ≡ Ok address → address_of_text text ≡ Ok address
unfolding address_of_text digits_of_text digit_of_character
no_plus [] address e = alone [] address e
no_plus (c ∷ text) address e = by (c == 43) refl where
  by : (b : Bool) → (c == 43) ≡ b → (if b then telephone_of 1 (few_digits (digits_of_text text)) else without_plus (c ∷ text)) ≡ Ok address
  by true is =
      let same : c ≡ 43 = eqb-true c 43 is in
      refused _ address (subst (λ (k : ℕ). telephone_of 0 (few_digits (digits_of_text (k ∷ text))) ≡ Ok address) same e)
  by false is = alone (c ∷ text) address e

pub said_alone : (text : List ℕ) (address : AddressValue) → IsAscii text → telephone_of 0 (few_digits (digits_of_text text)) ≡ Ok address → Says text address
said_alone text address ascii says = in_ascii text address ascii (no_plus text address says)

ascii_after : (c : ℕ) (text : List ℕ) → c < 128 → IsAscii text → IsAscii (c ∷ text)
ascii_after c text small ascii = IsAscii-from_all (c ∷ text) (All-from_recursion (λ b. b < 128) (c ∷ text) (small, recursion_from_All (λ b. b < 128) text (All-from_ascii text ascii)))

pub said_after_plus : (text digits : List ℕ) (address : AddressValue) → text ≡ 43 ∷ digits → IsAscii digits → telephone_of 1 (few_digits (digits_of_text digits)) ≡ Ok address → Says text address
unfolding address_of_text
said_after_plus text digits address is ascii says =
    subst (λ (l : List ℕ). Says l address) (sym is) (in_ascii (43 ∷ digits) address (ascii_after 43 digits (omega arith) ascii) says)

pub given_alone : (text : List ℕ) (found : Option AddressValue) → IfSome found (λ address. IsAscii text × (telephone_of 0 (few_digits (digits_of_text text)) ≡ Ok address)) → IfSome found (λ address. Says text address)
given_alone text None says = record {}
given_alone text (Some address) says = said_alone text address says.0 says.1

pub given_after_plus : (text digits : List ℕ) (found : Option AddressValue) → 1 ≤ length text → get_or text 0 0 ≡ 43 → digits ≡ take (length text - 1) (drop 1 text) → IfSome found (λ address. IsAscii digits × (telephone_of 1 (few_digits (digits_of_text digits)) ≡ Ok address)) → IfSome found (λ address. Says text address)
given_after_plus text digits None some first rest says = record {}
given_after_plus text digits (Some address) some first rest says = said_after_plus text digits address (first_of text 43 some first ∙ ap (λ (l : List ℕ). 43 ∷ l) (sym rest)) says.0 says.1

pub given_so : (text : List ℕ) (address : AddressValue) → Says text address → address_given text ≡ Ok address
given_so text address says = rw (is_utf8-from_IsUtf8 text says.0, says.1) refl
