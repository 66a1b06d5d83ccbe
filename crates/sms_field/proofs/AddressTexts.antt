-- The address of a text, with + in front and without.
use Rattle.std.proofs.Common.{◌≡◌, ◌≢◌, ℕ, Bool, true, false, cond, eqb, List, [], ◌∷◌, ◌++◌, refl, ap, ◌∙◌, lit<}
use Rattle.std.proofs.lemmas.Bool.{eqb-true, ne_eqb}
use Rattle.sms_field.specs.Address.DigitText.{digits_of_text, text_of_digits}
use Rattle.std.specs.Str.{chars}
use Rattle.std.proofs.lemmas.Str.{chars-nil, encode_ascii}
use Rattle.std.proofs.Math.Utf8.{encode}
use Rattle.sms_field.proofs.DigitTexts.{plus_first}
use Rattle.sms_field.specs.Address.Text.{prefix, few_digits, telephone_of, without_plus, address_of_text}

pub after_plus : (text rest : List ℕ) → text ≡ 43 ∷ rest → address_of_text text ≡ telephone_of 1 (few_digits (digits_of_text rest))
unfolding address_of_text
after_plus text rest e = ap address_of_text e

pub no_plus : (text : List ℕ) → ((rest : List ℕ) → text ≢ 43 ∷ rest) → address_of_text text ≡ without_plus text
unfolding address_of_text
no_plus [] other = refl
no_plus (c ∷ text) other = go (eqb c 43) refl
  where
    go : (b : Bool) → eqb c 43 ≡ b → cond b (telephone_of 1 (few_digits (digits_of_text text))) (without_plus (c ∷ text)) ≡ without_plus (c ∷ text)
    go true is = absurd (other text (ap (λ (n : ℕ). n ∷ text) (eqb-true c 43 is)))
    go false is = refl

pub shown_after_plus : (start pushed new digits : List ℕ) (kind : ℕ) → kind ≡ 1 → start ≡ [] → pushed ≡ start ++ encode 43 → chars new ≡ chars pushed ++ text_of_digits digits → chars new ≡ prefix kind ++ text_of_digits digits
shown_after_plus start pushed new digits kind is none push e =
    let bytes : pushed ≡ 43 ∷ [] = push ∙ ap (λ (l : List ℕ). l ++ encode 43) none ∙ encode_ascii 43 (lit< tt) in
    rw is (e ∙ ap (λ (l : List ℕ). chars l ++ text_of_digits digits) bytes ∙ ap (λ (l : List ℕ). l ++ text_of_digits digits) (plus_first [] ∙ ap (λ (l : List ℕ). 43 ∷ l) chars-nil))

pub shown_alone : (start new digits : List ℕ) (kind : ℕ) → kind ≢ 1 → start ≡ [] → chars new ≡ chars start ++ text_of_digits digits → chars new ≡ prefix kind ++ text_of_digits digits
shown_alone start new digits kind other none e = rw (ne_eqb kind 1 other) (e ∙ ap (λ (l : List ℕ). chars l ++ text_of_digits digits) none ∙ ap (λ (l : List ℕ). l ++ text_of_digits digits) chars-nil)
