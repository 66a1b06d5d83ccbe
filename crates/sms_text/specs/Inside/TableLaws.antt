-- A reader may pass this by: lemmas, for the proofs of this crate and of those above it.
--
-- What follows from the tables, each looked through once: the character of a character's code is
-- the character.
use Rattle.std.proofs.Common.{◌≡◌, ℕ, ◌<◌, Bool, true, false, not, cond, ltb, List, [], ◌∷◌, Option, Some, refl, sym, ap, subst, ◌∙◌}
use Rattle.std.specs.Prelude.{◌&&◌, ◌==◌}
use Rattle.std.proofs.lemmas.Bool.{eqb-true, eq-eqb, ltb-true}
use Rattle.sms_text.specs.Tables.{main, extension, escape, code_of, character_of}

abbrev pub lacks : ℕ → List (ℕ × ℕ) → Bool
lacks code [] = true
lacks code (entry ∷ others) = not (entry.0 == code) && lacks code others

-- no code stands twice
abbrev pub is_unambiguous : List (ℕ × ℕ) → Bool
is_unambiguous [] = true
is_unambiguous (entry ∷ others) = lacks entry.0 others && is_unambiguous others

-- each code is a septet
abbrev pub has_septets : List (ℕ × ℕ) → Bool
has_septets [] = true
has_septets (entry ∷ others) = ltb entry.0 128 && has_septets others

both : (a b : Bool) → (a && b) ≡ true → (a ≡ true) × (b ≡ true)
both true true e = (refl, refl)
both true false e = absurd cc
both false b e = absurd cc

abbrev some : ℕ → Option ℕ
some n = Some n

same_some : (a b : ℕ) → some a ≡ some b → a ≡ b
same_some a b e = cc

lacked_one : (at code c : ℕ) (rest : Option ℕ) (b : Bool) → not (at == code) ≡ true → (rest ≡ Some code → ⊥) → cond b (Some at) rest ≡ Some code → ⊥
lacked_one at code c rest true l others f =
    let yes : (at == code) ≡ true = eq-eqb at code (same_some at code f) in
    let no : false ≡ true = ap not (sym yes) ∙ l in
    absurd cc
lacked_one at code c rest false l others f = others f

-- a code that the table lacks is no character's code
pub lacked : (code c : ℕ) (table : List (ℕ × ℕ)) → lacks code table ≡ true → code_of table c ≡ Some code → ⊥
unfolding code_of
lacked code c [] l e = absurd cc
lacked code c (entry ∷ others) l e =
    let h = both (not (entry.0 == code)) (lacks code others) l in
    lacked_one entry.0 code c (code_of others c) (entry.1 == c) h.0 (lacked code c others h.1) e

again_one : (entry : ℕ × ℕ) (others : List (ℕ × ℕ)) (c code : ℕ) (b : Bool) → (entry.1 == c) ≡ b → lacks entry.0 others ≡ true → (code_of others c ≡ Some code → character_of others code ≡ Some c)
    → cond b (Some entry.0) (code_of others c) ≡ Some code → cond (entry.0 == code) (Some entry.1) (character_of others code) ≡ Some c
again_one entry others c code true is l rest f =
    let code_is : (entry.0 == code) ≡ true = eq-eqb entry.0 code (same_some entry.0 code f) in
    rw (code_is, eqb-true entry.1 c is) refl
again_one entry others c code false is l rest f = other_one (entry.0 == code) refl
  where
    other_one : (b : Bool) → (entry.0 == code) ≡ b → cond b (Some entry.1) (character_of others code) ≡ Some c
    other_one true e = absurd (lacked entry.0 c others l (f ∙ ap {B = Option ℕ} Some (sym (eqb-true entry.0 code e))))
    other_one false e = rest f

pub character_again : (table : List (ℕ × ℕ)) (c code : ℕ) → is_unambiguous table ≡ true → code_of table c ≡ Some code → character_of table code ≡ Some c
unfolding code_of character_of
character_again [] c code u e = absurd cc
character_again (entry ∷ others) c code u e =
    let h = both (lacks entry.0 others) (is_unambiguous others) u in
    again_one entry others c code (entry.1 == c) refl h.0 (character_again others c code h.1) e

septet_one : (at code : ℕ) (rest : Option ℕ) (b : Bool) → ltb at 128 ≡ true → (rest ≡ Some code → code < 128) → cond b (Some at) rest ≡ Some code → code < 128
septet_one at code rest true low others f = subst (λ (n : ℕ). n < 128) (same_some at code f) (ltb-true at 128 low)
septet_one at code rest false low others f = others f

pub septet : (table : List (ℕ × ℕ)) (c code : ℕ) → has_septets table ≡ true → code_of table c ≡ Some code → code < 128
unfolding code_of
septet [] c code low e = absurd cc
septet (entry ∷ others) c code low e =
    let h = both (ltb entry.0 128) (has_septets others) low in
    septet_one entry.0 code (code_of others c) (entry.1 == c) h.0 (septet others c code h.1) e

-- ---- the two tables

pub main_again : (c code : ℕ) → code_of main c ≡ Some code → character_of main code ≡ Some c
main_again c code is = character_again main c code refl is

pub extension_again : (c code : ℕ) → code_of extension c ≡ Some code → character_of extension code ≡ Some c
extension_again c code is = character_again extension c code refl is

pub main_septet : (c code : ℕ) → code_of main c ≡ Some code → code < 128
main_septet c code is = septet main c code refl is

pub extension_septet : (c code : ℕ) → code_of extension c ≡ Some code → code < 128
extension_septet c code is = septet extension c code refl is

pub not_escape : (code c : ℕ) → code_of main c ≡ Some code → (code == escape) ≡ false
not_escape code c is = go (code == escape) refl
  where
    go : (b : Bool) → (code == escape) ≡ b → b ≡ false
    go true e = absurd (lacked escape c main refl (is ∙ ap {B = Option ℕ} Some (eqb-true code escape e)))
    go false e = refl
