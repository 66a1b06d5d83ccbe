-- What follows from the tables and the definitions by cases.
use Rattle.std.proofs.Common.{◌≡◌, ◌≢◌, ℕ, ◌<◌, Bool, true, false, cond, List, [], ◌∷◌, ◌++◌, Option, Some, None, refl, sym, ap, subst, ◌∙◌, arith, append_assoc}
use Rattle.std.specs.Prelude.{◌==◌, unwrap_or}
use Rattle.std.proofs.lemmas.Bool.{eqb-true}
use Rattle.std.proofs.lemmas.List.{append-nil}
use Rattle.sms_text.specs.Bits.{AreSeptets}
use Rattle.sms_text.specs.Tables.{main, extension, escape, space, code_of, character_of}
use Rattle.sms_text.specs.SeptetsOfText.{code_or_escaped, appended, septets_of_text}
use Rattle.sms_text.specs.SeptetsOfText as default_septets
use Rattle.sms_text.specs.TextOfSeptets.{text_of_septets}
use Rattle.sms_text.specs.TextOfSeptets as default
use Rattle.sms_text.specs.Inside.TableLaws.{lacks, is_unambiguous, has_septets, lacked, character_again, septet}
use Rattle.sms_text.specs.Inside.TextLaws.{same_list, appended_parts, septets-append}
use Rattle.sms_language.specs.Tables.{locking_table, single_table, default_tables}
use Rattle.sms_language.specs.TextUnder.{plain_character, escaped_character, text_under}
use Rattle.sms_language.specs.SeptetsUnder.{septets_of_character, septets_under}
use Rattle.sms_language.specs.declared.tables.Locking.{Locking}
use Rattle.sms_language.specs.declared.tables.Locking.TheVariants as locking
use Rattle.sms_language.specs.declared.tables.Single.{Single}
use Rattle.sms_language.specs.declared.tables.Single.TheVariants as single
use Rattle.sms_language.specs.declared.tables.Tables.{Tables}

-- ---- each table looked through once

-- no code stands twice, each is a septet, and none is the escape
pub record IsTable (table : List (ℕ × ℕ)) : Type 0 where
  pub unambiguous : is_unambiguous table ≡ true
  pub small : has_septets table ≡ true
  pub no_escape : lacks escape table ≡ true

pub locking_is : (l : Locking) → IsTable (locking_table l)
locking_is locking.Default = record { unambiguous = refl; small = refl; no_escape = refl }
locking_is locking.Turkish = record { unambiguous = refl; small = refl; no_escape = refl }
locking_is locking.Portuguese = record { unambiguous = refl; small = refl; no_escape = refl }

pub single_is : (s : Single) → IsTable (single_table s)
single_is single.Default = record { unambiguous = refl; small = refl; no_escape = refl }
single_is single.Turkish = record { unambiguous = refl; small = refl; no_escape = refl }
single_is single.Spanish = record { unambiguous = refl; small = refl; no_escape = refl }
single_is single.Portuguese = record { unambiguous = refl; small = refl; no_escape = refl }

-- the code of a character is a septet, no escape, and the code of that character
pub record IsCode (table : List (ℕ × ℕ)) (code c : ℕ) : Type 0 where
  pub small : code < 128
  pub other : (code == escape) ≡ false
  pub again : character_of table code ≡ Some c

other_than : (table : List (ℕ × ℕ)) (code c : ℕ) → lacks escape table ≡ true → code_of table c ≡ Some code → (b : Bool) → (code == escape) ≡ b → b ≡ false
other_than table code c l is true e = absurd (lacked escape c table l (is ∙ ap {B = Option ℕ} Some (eqb-true code escape e)))
other_than table code c l is false e = refl

pub code_is : (table : List (ℕ × ℕ)) (code c : ℕ) → IsTable table → code_of table c ≡ Some code → IsCode table code c
code_is table code c h is = record {
  small = septet table c code h.small is;
  other = other_than table code c h.no_escape is (code == escape) refl;
  again = character_again table c code h.unambiguous is;
}

-- ---- the text of septets by what stands at the front

pub text_after_escape : (tables : Tables) (code : ℕ) (others : List ℕ) → text_under tables (escape ∷ code ∷ others) ≡ escaped_character tables code ∷ text_under tables others
unfolding text_under
text_after_escape tables code others = refl

pub text_from_plain : (tables : Tables) (code : ℕ) (others : List ℕ) → (code == escape) ≡ false → text_under tables (code ∷ others) ≡ plain_character tables code ∷ text_under tables others
unfolding text_under
text_from_plain tables code [] e = ap (λ (b : Bool). cond b space (plain_character tables code) ∷ []) e
text_from_plain tables code (next ∷ others) e = ap (λ (b : Bool). cond b (escaped_character tables next ∷ text_under tables others) (plain_character tables code ∷ text_under tables (next ∷ others))) e

-- ---- the septets of one character

-- they are septets, end in no escape, and are read as the character, whatever follows
pub record IsFront (tables : Tables) (c : ℕ) (front : List ℕ) : Type 0 where
  pub are : AreSeptets front
  pub start : List ℕ
  pub last : ℕ
  pub parts : front ≡ start ++ last ∷ []
  pub other : (last == escape) ≡ false
  pub again : (rest : List ℕ) → text_under tables (front ++ rest) ≡ c ∷ text_under tables rest

one_front : (tables : Tables) (c : ℕ) (front : List ℕ) (m e : Option ℕ) → code_of (locking_table tables.locking) c ≡ m → code_of (single_table tables.single) c ≡ e → code_or_escaped m e ≡ Some front → IsFront tables c front
one_front tables c front (Some code) e is also s =
    let h : IsCode (locking_table tables.locking) code c = code_is (locking_table tables.locking) code c (locking_is tables.locking) is in
    let front_is : code ∷ [] ≡ front = same_list (code ∷ []) front s in
    subst (IsFront tables c) front_is (record {
      are = (h.small, tt);
      start = [];
      last = code;
      parts = refl;
      other = h.other;
      again = λ (rest : List ℕ). text_from_plain tables code rest h.other ∙ ap (λ (o : Option ℕ). unwrap_or o space ∷ text_under tables rest) h.again;
    })
one_front tables c front None (Some code) is also s =
    let h : IsCode (single_table tables.single) code c = code_is (single_table tables.single) code c (single_is tables.single) also in
    let front_is : escape ∷ code ∷ [] ≡ front = same_list (escape ∷ code ∷ []) front s in
    subst (IsFront tables c) front_is (record {
      are = (omega arith, (h.small, tt));
      start = escape ∷ [];
      last = code;
      parts = refl;
      other = h.other;
      again = λ (rest : List ℕ). text_after_escape tables code rest ∙ ap (λ (o : Option ℕ). unwrap_or o (plain_character tables code) ∷ text_under tables rest) h.again;
    })
one_front tables c front None None is also s = absurd cc

pub character_front : (tables : Tables) (c : ℕ) (front : List ℕ) → septets_of_character tables c ≡ Some front → IsFront tables c front
unfolding septets_of_character
character_front tables c front s = one_front tables c front (code_of (locking_table tables.locking) c) (code_of (single_table tables.single) c) refl refl s

-- ---- the septets of a text

pub cut_again : (tables : Tables) (text septets back : List ℕ) → septets_under tables text ≡ Some septets → text_under tables (septets ++ back) ≡ text ++ text_under tables back
unfolding septets_under
cut_again tables [] septets back e = ap (λ (l : List ℕ). text_under tables (l ++ back)) (sym (same_list [] septets e))
cut_again tables (c ∷ text) septets back e =
    let p = appended_parts (septets_of_character tables c) (septets_under tables text) septets e in
    let front : List ℕ = p.0 in
    let rest : List ℕ = p.1 in
    ap (λ (l : List ℕ). text_under tables (l ++ back)) (sym p.4) ∙ ap (text_under tables) (append_assoc front rest back) ∙ (character_front tables c front p.2).again (rest ++ back) ∙ ap (λ (l : List ℕ). c ∷ l) (cut_again tables text rest back p.3)

no_text : (tables : Tables) → text_under tables [] ≡ []
unfolding text_under
no_text tables = refl

pub text_again : (tables : Tables) (text septets : List ℕ) → septets_under tables text ≡ Some septets → text_under tables septets ≡ text
text_again tables text septets e =
    ap (text_under tables) (sym (append-nil septets)) ∙ cut_again tables text septets [] e ∙ ap (λ (l : List ℕ). text ++ l) (no_text tables) ∙ append-nil text

pub text_septets : (tables : Tables) (text septets : List ℕ) → septets_under tables text ≡ Some septets → AreSeptets septets
unfolding septets_under
text_septets tables [] septets e = subst AreSeptets (same_list [] septets e) tt
text_septets tables (c ∷ text) septets e =
    let p = appended_parts (septets_of_character tables c) (septets_under tables text) septets e in
    subst AreSeptets p.4 (septets-append p.0 p.1 (character_front tables c p.0 p.2).are (text_septets tables text p.1 p.3))

-- ---- no escape is last

-- the last septet is none
abbrev ends : List ℕ → Bool
ends [] = false
ends (x ∷ []) = x == escape
ends (x ∷ y ∷ others) = ends (y ∷ others)

ends-more : (x y : ℕ) (xs others : List ℕ) → ends (xs ++ y ∷ others) ≡ ends (y ∷ others)
ends-more x y [] others = refl
ends-more x y (a ∷ []) others = refl
ends-more x y (a ∷ b ∷ xs) others = ends-more x y (b ∷ xs) others

ends-front : (tables : Tables) (c : ℕ) (front rest : List ℕ) → IsFront tables c front → ends rest ≡ false → ends (front ++ rest) ≡ false
ends-front tables c front [] h e =
    ap ends (append-nil front ∙ h.parts) ∙ ends-more 0 h.last h.start [] ∙ h.other
ends-front tables c front (y ∷ others) h e = ends-more 0 y front others ∙ e

ends-text : (tables : Tables) (text septets : List ℕ) → septets_under tables text ≡ Some septets → ends septets ≡ false
unfolding septets_under
ends-text tables [] septets e = ap ends (sym (same_list [] septets e))
ends-text tables (c ∷ text) septets e =
    let p = appended_parts (septets_of_character tables c) (septets_under tables text) septets e in
    ap ends (sym p.4) ∙ ends-front tables c p.0 p.1 (character_front tables c p.0 p.2) (ends-text tables text p.1 p.3)

pub no_escape_last : (tables : Tables) (text septets front : List ℕ) → septets_under tables text ≡ Some septets → septets ≢ front ++ escape ∷ []
no_escape_last tables text septets front e last =
    let not_there : ends septets ≡ false = ends-text tables text septets e in
    let there : ends septets ≡ true = ap ends last ∙ ends-more 0 escape front [] in
    absurd cc

-- ---- two texts after one another

pub appended_assoc : (a b c : Option (List ℕ)) → appended (appended a b) c ≡ appended a (appended b c)
appended_assoc (Some x) (Some y) (Some z) = ap (λ (l : List ℕ). let r : Option (List ℕ) = Some l in r) (append_assoc x y z)
appended_assoc (Some x) (Some y) None = refl
appended_assoc (Some x) None c = refl
appended_assoc None b c = refl

pub appended_none : (r : Option (List ℕ)) → r ≡ appended (Some []) r
appended_none None = refl
appended_none (Some l) = refl

pub joined : (tables : Tables) (front back : List ℕ) → septets_under tables (front ++ back) ≡ appended (septets_under tables front) (septets_under tables back)
unfolding septets_under
joined tables [] back = appended_none (septets_under tables back)
joined tables (c ∷ front) back =
    ap (appended (septets_of_character tables c)) (joined tables front back) ∙ sym (appended_assoc (septets_of_character tables c) (septets_under tables front) (septets_under tables back))

-- ---- the default tables

-- the main table has no escape
same_reserved : (code : ℕ) (b : Bool) → (code == escape) ≡ b → default.plain_character code ≡ cond b space (default.plain_character code)
unfolding character_of
same_reserved code true e = ap (λ (n : ℕ). default.plain_character n) (eqb-true code escape e)
same_reserved code false e = refl

same_escaped : (code : ℕ) → escaped_character default_tables code ≡ default.escaped_character code
same_escaped code = ap (unwrap_or (character_of extension code)) (same_reserved code (code == escape) refl)

pub default_text : (septets : List ℕ) → text_under default_tables septets ≡ text_of_septets septets
unfolding text_under text_of_septets
default_text [] = refl
default_text (code ∷ []) = refl
default_text (code ∷ next ∷ others) =
    ap (λ (x : ℕ). cond (code == escape) (x ∷ text_under default_tables others) (default.plain_character code ∷ text_under default_tables (next ∷ others))) (same_escaped next)
    ∙ ap (λ (l : List ℕ). cond (code == escape) (default.escaped_character next ∷ l) (default.plain_character code ∷ text_under default_tables (next ∷ others))) (default_text others)
    ∙ ap (λ (l : List ℕ). cond (code == escape) (default.escaped_character next ∷ text_of_septets others) (default.plain_character code ∷ l)) (default_text (next ∷ others))

pub default_septets_same : (text : List ℕ) → septets_under default_tables text ≡ septets_of_text text
unfolding septets_under septets_of_character septets_of_text default_septets.septets_of_character
default_septets_same [] = refl
default_septets_same (c ∷ text) = ap (appended (code_or_escaped (code_of main c) (code_of extension c))) (default_septets_same text)

are_default : (tables : Tables) → tables.locking ≡ locking.Default → tables.single ≡ single.Default → tables ≡ default_tables
are_default tables l s =
    ap (λ (x : Locking). let t : Tables = record { locking = x; single = tables.single } in t) l
    ∙ ap (λ (x : Single). let t : Tables = record { locking = locking.Default; single = x } in t) s

-- where both tables are the default ones
pub text_by_default : (tables : Tables) (septets : List ℕ) → tables.locking ≡ locking.Default → tables.single ≡ single.Default → text_of_septets septets ≡ text_under tables septets
text_by_default tables septets l s = sym (ap (λ (t : Tables). text_under t septets) (are_default tables l s) ∙ default_text septets)

pub septets_by_default : (tables : Tables) (text : List ℕ) → tables.locking ≡ locking.Default → tables.single ≡ single.Default → septets_of_text text ≡ septets_under tables text
septets_by_default tables text l s = sym (ap (λ (t : Tables). septets_under t text) (are_default tables l s) ∙ default_septets_same text)
