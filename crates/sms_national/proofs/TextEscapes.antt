-- The septets of a text: no escape stands behind an escape.
use Rattle.std.proofs.Common.{◌≡◌, ℕ, Bool, true, false, not, List, [], ◌∷◌, ◌++◌, Option, Some, None, refl, sym, ap, ◌∙◌}
use Rattle.std.specs.Prelude.{◌==◌, ◌&&◌}
use Rattle.std.proofs.lemmas.Bool.{eqb-true}
use Rattle.sms_text.specs.Tables.{escape, code_of}
use Rattle.sms_text.specs.SeptetsOfText.{code_or_escaped}
use Rattle.sms_text.specs.Inside.TableLaws.{lacks, lacked}
use Rattle.sms_text.specs.Inside.TextLaws.{same_list, appended_parts}
use Rattle.sms_language.specs.Tables.{locking_table, single_table}
use Rattle.sms_language.specs.SeptetsUnder.{septets_of_character, septets_under}
use Rattle.sms_language.specs.declared.tables.Locking.{Locking}
use Rattle.sms_language.specs.declared.tables.Locking.TheVariants as locking
use Rattle.sms_language.specs.declared.tables.Single.{Single}
use Rattle.sms_language.specs.declared.tables.Single.TheVariants as single
use Rattle.sms_language.specs.declared.tables.Tables.{Tables}
use Rattle.sms_national.specs.Inside.Escapes.{stand_apart}

locking_lacks : (l : Locking) → lacks escape (locking_table l) ≡ true
locking_lacks locking.Default = refl
locking_lacks locking.Turkish = refl
locking_lacks locking.Portuguese = refl

single_lacks : (s : Single) → lacks escape (single_table s) ≡ true
single_lacks single.Default = refl
single_lacks single.Turkish = refl
single_lacks single.Spanish = refl
single_lacks single.Portuguese = refl

other_than : (table : List (ℕ × ℕ)) (code c : ℕ) → lacks escape table ≡ true → code_of table c ≡ Some code → (b : Bool) → (code == escape) ≡ b → b ≡ false
other_than table code c l is true e = absurd (lacked escape c table l (is ∙ ap {B = Option ℕ} Some (eqb-true code escape e)))
other_than table code c l is false e = refl

-- a code that is no escape goes before anything
plain_apart : (code : ℕ) (rest : List ℕ) → (code == escape) ≡ false → stand_apart rest ≡ true → stand_apart (code ∷ rest) ≡ true
plain_apart code [] other h = refl
plain_apart code (next ∷ others) other h = ap (λ (b : Bool). not (b && (next == escape)) && stand_apart (next ∷ others)) other ∙ h

escaped_apart : (code : ℕ) (rest : List ℕ) → (code == escape) ≡ false → stand_apart rest ≡ true → stand_apart (escape ∷ code ∷ rest) ≡ true
escaped_apart code rest other h = ap (λ (b : Bool). not b && stand_apart (code ∷ rest)) other ∙ plain_apart code rest other h

one_apart : (tables : Tables) (c : ℕ) (front rest : List ℕ) (m e : Option ℕ) → code_of (locking_table tables.locking) c ≡ m → code_of (single_table tables.single) c ≡ e → code_or_escaped m e ≡ Some front
    → stand_apart rest ≡ true → stand_apart (front ++ rest) ≡ true
one_apart tables c front rest (Some code) e is also s h =
    let other : (code == escape) ≡ false = other_than (locking_table tables.locking) code c (locking_lacks tables.locking) is (code == escape) refl in
    ap (λ (l : List ℕ). stand_apart (l ++ rest)) (sym (same_list (code ∷ []) front s)) ∙ plain_apart code rest other h
one_apart tables c front rest None (Some code) is also s h =
    let other : (code == escape) ≡ false = other_than (single_table tables.single) code c (single_lacks tables.single) also (code == escape) refl in
    ap (λ (l : List ℕ). stand_apart (l ++ rest)) (sym (same_list (escape ∷ code ∷ []) front s)) ∙ escaped_apart code rest other h
one_apart tables c front rest None None is also s h = absurd cc

pub text_apart : (tables : Tables) (text septets : List ℕ) → septets_under tables text ≡ Some septets → stand_apart septets ≡ true
unfolding septets_under septets_of_character
text_apart tables [] septets e = ap stand_apart (sym (same_list [] septets e))
text_apart tables (c ∷ text) septets e =
    let p = appended_parts (septets_of_character tables c) (septets_under tables text) septets e in
    ap stand_apart (sym p.4) ∙ one_apart tables c p.0 p.1 (code_of (locking_table tables.locking) c) (code_of (single_table tables.single) c) refl refl p.2 (text_apart tables text p.1 p.3)
