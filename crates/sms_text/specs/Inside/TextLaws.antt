-- A reader may pass this by: lemmas, for the proofs of this crate and of those above it.
--
-- The text of the septets of a text is the text.
use Rattle.std.proofs.Common.{◌≡◌, ℕ, cond, List, [], ◌∷◌, ◌++◌, Option, Some, None, refl, sym, ap, subst, ◌∙◌, arith}
use Rattle.std.specs.Prelude.{◌==◌, unwrap_or}
use Rattle.sms_text.specs.Bits.{AreSeptets}
use Rattle.sms_text.specs.Tables.{main, extension, escape, space, code_of}
use Rattle.sms_text.specs.SeptetsOfText.{code_or_escaped, septets_of_character, appended, septets_of_text}
use Rattle.sms_text.specs.TextOfSeptets.{plain_character, text_of_septets}
use Rattle.sms_text.specs.Inside.TableLaws.{main_again, extension_again, main_septet, extension_septet, not_escape}
use Rattle.sms_text.specs.Inside.FrontLaws.{text_after_escape, text_from_plain}

abbrev some_list : List ℕ → Option (List ℕ)
some_list l = Some l

pub same_list : (a b : List ℕ) → some_list a ≡ some_list b → a ≡ b
same_list a b e = cc

one_again : (c : ℕ) (front rest : List ℕ) (m e : Option ℕ) → code_of main c ≡ m → code_of extension c ≡ e → code_or_escaped m e ≡ Some front → text_of_septets (front ++ rest) ≡ c ∷ text_of_septets rest
one_again c front rest (Some code) e is also s =
    let front_is : code ∷ [] ≡ front = same_list (code ∷ []) front s in
    ap (λ (l : List ℕ). text_of_septets (l ++ rest)) (sym front_is) ∙ text_from_plain code rest (not_escape code c is) ∙ ap (λ (o : Option ℕ). unwrap_or o space ∷ text_of_septets rest) (main_again c code is)
one_again c front rest None (Some code) is also s =
    let front_is : escape ∷ code ∷ [] ≡ front = same_list (escape ∷ code ∷ []) front s in
    ap (λ (l : List ℕ). text_of_septets (l ++ rest)) (sym front_is) ∙ text_after_escape code rest ∙ ap (λ (o : Option ℕ). unwrap_or o (cond (code == escape) space (plain_character code)) ∷ text_of_septets rest) (extension_again c code also)
one_again c front rest None None is also s = absurd cc

pub appended_parts : (a b : Option (List ℕ)) (s : List ℕ) → appended a b ≡ Some s → (x : List ℕ) × (y : List ℕ) × (a ≡ Some x) × (b ≡ Some y) × (x ++ y ≡ s)
appended_parts (Some x) (Some y) s e = (x, y, refl, refl, same_list (x ++ y) s e)
appended_parts (Some x) None s e = absurd cc
appended_parts None b s e = absurd cc

pub text_again : (text septets : List ℕ) → septets_of_text text ≡ Some septets → text_of_septets septets ≡ text
unfolding septets_of_text septets_of_character text_of_septets
text_again [] septets e = ap text_of_septets (sym (same_list [] septets e))
text_again (c ∷ text) septets e =
    let p = appended_parts (septets_of_character c) (septets_of_text text) septets e in
    ap text_of_septets (sym p.4) ∙ one_again c p.0 p.1 (code_of main c) (code_of extension c) refl refl p.2 ∙ ap (λ (l : List ℕ). c ∷ l) (text_again text p.1 p.3)

-- ---- the septets of a text are septets

pub septets-append : (xs ys : List ℕ) → AreSeptets xs → AreSeptets ys → AreSeptets (xs ++ ys)
septets-append [] ys p q = q
septets-append (x ∷ xs) ys p q = (p.0, septets-append xs ys p.1 q)

one_septets : (c : ℕ) (front : List ℕ) (m e : Option ℕ) → code_of main c ≡ m → code_of extension c ≡ e → code_or_escaped m e ≡ Some front → AreSeptets front
one_septets c front (Some code) e is also s = subst AreSeptets (same_list (code ∷ []) front s) (main_septet c code is, tt)
one_septets c front None (Some code) is also s = subst AreSeptets (same_list (escape ∷ code ∷ []) front s) (omega arith, (extension_septet c code also, tt))
one_septets c front None None is also s = absurd cc

pub text_septets : (text septets : List ℕ) → septets_of_text text ≡ Some septets → AreSeptets septets
unfolding septets_of_text septets_of_character
text_septets [] septets e = subst AreSeptets (same_list [] septets e) tt
text_septets (c ∷ text) septets e =
    let p = appended_parts (septets_of_character c) (septets_of_text text) septets e in
    subst AreSeptets p.4 (septets-append p.0 p.1 (one_septets c p.0 (code_of main c) (code_of extension c) refl refl p.2) (text_septets text p.1 p.3))
