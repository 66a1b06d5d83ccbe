-- Tokens of JSON, one behind another.
use Rattle.std.proofs.Common.{◌≡◌, ℕ, Bool, true, false, ◌&&◌, List, [], ◌∷◌, ◌++◌, refl, sym, ap, subst, ◌∙◌, append_assoc}
use Rattle.std.specs.List.{list_all}
use Rattle.std.proofs.lemmas.Bool.{and_parts}
use Rattle.std.proofs.lemmas.List.{append-nil}
use Rattle.sms_page.specs.Plain.{is_plain}
use Rattle.sms_page.specs.Page.{PageValue, Puts, maybe, quoted}
use Rattle.sms_page.specs.Escapes.{escaped, json}
use Rattle.sms_page.specs.Object.{ObjectValue, Token, Writes, HasCommas, IsItem, AreItems, begins, ends, token_text, texts, after, tokens_of, separated}
use Rattle.sms_page.proofs.PageLemmas.{Puts-then, Puts-same}
use Rattle.sms_page.specs.Inside.EscapeRules.{json_rule}

pub and_true : (a : Bool) → a ≡ (a && true)
and_true true = refl
and_true false = refl

pub and_false : (a : Bool) → false ≡ (a && false)
and_false true = refl
and_false false = refl

-- one token
pub Writes-token : (old : ObjectValue) (a b : PageValue) (has_value last comma : Bool) (token : Token) → record { page = a; has_value = has_value } ≡ old
    → comma ≡ (has_value && begins token) → last ≡ ends token → Puts a b (maybe comma 44 ++ token_text token) → Writes old (record { page = b; has_value = last }) (token ∷ [])
unfolding texts after
Writes-token old a b has_value last comma token is e place p =
    let P : ObjectValue → Type 0 = λ o. Writes o (record { page = b; has_value = last }) (token ∷ []) in
    subst P is (record {
      put = Puts-same (ap (λ (c : Bool). maybe c 44 ++ token_text token) e ∙ sym (append-nil (maybe (has_value && begins token) 44 ++ token_text token))) p;
      place = place;
    })

after-append : (has_value : Bool) (xs ys : List Token) → after has_value (xs ++ ys) ≡ after (after has_value xs) ys
unfolding after
after-append h [] ys = refl
after-append h (x ∷ xs) ys = after-append (ends x) xs ys

texts-append : (has_value : Bool) (xs ys : List Token) → texts has_value (xs ++ ys) ≡ texts has_value xs ++ texts (after has_value xs) ys
unfolding texts after
texts-append h [] ys = refl
texts-append h (x ∷ xs) ys =
    ap (λ (l : List ℕ). (maybe (h && begins x) 44 ++ token_text x) ++ l) (texts-append (ends x) xs ys)
    ∙ sym (append_assoc (maybe (h && begins x) 44 ++ token_text x) (texts (ends x) xs) (texts (after (ends x) xs) ys))

-- tokens behind tokens
pub Writes-then : {a b c : ObjectValue} (xs ys : List Token) → Writes a b xs → Writes b c ys → Writes a c (xs ++ ys)
Writes-then {a} {b} {c} xs ys p q =
    let Q : Bool → Type 0 = λ h. Puts b.page c.page (texts h ys) in
    record {
      put = Puts-same (sym (texts-append a.has_value xs ys)) (Puts-then _ _ p.put (subst Q p.place q.put));
      place = q.place ∙ ap (λ (h : Bool). after h ys) p.place ∙ sym (after-append a.has_value xs ys);
    }

-- what stands in quotes, with the comma apart
pub quoted_is : (has_comma : Bool) (text : List ℕ) (has_colon : Bool) → quoted has_comma text has_colon ≡ maybe has_comma 44 ++ quoted false text has_colon
quoted_is has_comma text has_colon =
    let m = maybe has_comma 44 in
    let e = maybe has_colon 58 in
    ap (λ (l : List ℕ). (l ++ 34 ∷ []) ++ e) (append_assoc m (34 ∷ []) text)
    ∙ ap (λ (l : List ℕ). l ++ e) (append_assoc m ((34 ∷ []) ++ text) (34 ∷ [])) ∙ append_assoc m ((34 ∷ []) ++ text ++ 34 ∷ []) e

-- a name that has nothing to escape
pub plain_name : (text : List ℕ) → list_all (is_plain 34) text ≡ true → text ≡ escaped json text
unfolding escaped
plain_name [] all = refl
plain_name (x ∷ text) all =
    let parts = and_parts (is_plain 34 x) (list_all (is_plain 34) text) all in
    ap (λ (l : List ℕ). x ∷ l) (plain_name text parts.1) ∙ ap (λ (l : List ℕ). l ++ escaped json text) (sym (json_rule.letters x parts.0))

-- ---- commas

item_behind : (item rest : List Token) → IsItem item → texts true (item ++ rest) ≡ 44 ∷ texts false (item ++ rest)
unfolding texts
item_behind [] rest is = absurd is
item_behind (x ∷ item) rest is =
    ap (λ (b : Bool). (maybe b 44 ++ token_text x) ++ texts (ends x) (item ++ rest)) is.0

item_ends : (item : List Token) → IsItem item → after false item ≡ true
unfolding after
item_ends [] is = absurd is
item_ends (x ∷ item) is = is.1

are_separated : (items : List (List Token)) → AreItems items → texts false (tokens_of items) ≡ separated items
unfolding texts
are_separated [] are = refl
are_separated (item ∷ []) are = ap (texts false) (append-nil item)
are_separated (item ∷ next ∷ items) are =
    let rest = tokens_of items in
    texts-append false item (next ++ rest) ∙ ap (λ (h : Bool). texts false item ++ texts h (next ++ rest)) (item_ends item are.0)
    ∙ ap (λ (l : List ℕ). texts false item ++ l) (item_behind next rest are.1.0 ∙ ap (λ (l : List ℕ). 44 ∷ l) (are_separated (next ∷ items) are.1))
    ∙ sym (append_assoc (texts false item) (44 ∷ []) (separated (next ∷ items)))

last_text : (h : Bool) (last : Token) → begins last ≡ false → texts h (last ∷ []) ≡ token_text last
unfolding texts
last_text h last no_comma =
    append-nil (maybe (h && begins last) 44 ++ token_text last) ∙ ap (λ (b : Bool). maybe (h && b) 44 ++ token_text last) no_comma
    ∙ ap (λ (b : Bool). maybe b 44 ++ token_text last) (sym (and_false h))

pub commas : (first last : Token) → begins first ≡ true → ends first ≡ false → begins last ≡ false → ends last ≡ true → HasCommas first last
unfolding texts after
commas first last first_begins first_ends last_begins last_ends = record {
  is_item = λ items are. (first_begins, after-append (ends first) (tokens_of items) (last ∷ []) ∙ last_ends);
  text = λ items are.
      ap (λ (h : Bool). token_text first ++ texts h (tokens_of items ++ last ∷ [])) first_ends
      ∙ ap (λ (l : List ℕ). token_text first ++ l) (texts-append false (tokens_of items) (last ∷ [])
      ∙ ap (λ (l : List ℕ). texts false (tokens_of items) ++ l) (last_text (after false (tokens_of items)) last last_begins)
      ∙ ap (λ (l : List ℕ). l ++ token_text last) (are_separated items are))
      ∙ sym (append_assoc (token_text first) (separated items) (token_text last));
}
