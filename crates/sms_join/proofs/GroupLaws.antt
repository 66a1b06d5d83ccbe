-- The units of each character of a text: one unit, or a pair that an opening unit begins.
use Rattle.std.proofs.Common.{◌≡◌, ℕ, ◌+◌, ◌-◌, ◌/◌, ◌%◌, ◌<◌, ◌≤◌, ◌⊎◌, inl, inr, Bool, true, false, not, cond, List, [], ◌∷◌, ◌++◌, length, Option, Some, None, refl, sym, ap, subst, ◌∙◌, arith}
use Rattle.std.specs.Prelude.{◌&&◌, ◌==◌, unwrap_or, nat_lt}
use Rattle.std.proofs.lemmas.Bool.{ltb-true, ltb-false}
use Rattle.std.proofs.lemmas.Bool.Decides.{nat_tests}
use Rattle.std.proofs.Math.Utf8.{scalar_cases}
use Rattle.std.specs.List.{flat_map, AllByRecursion}
use Rattle.std.specs.Char.{IsScalar}
use Rattle.std.specs.Char.Utf16.{is_high_surrogate}
use Rattle.sms_text.specs.Tables.{main, extension, escape, code_of}
use Rattle.sms_text.specs.SeptetsOfText.{code_or_escaped, septets_of_character, septets_of_text, appended}
use Rattle.sms_join.specs.UnitsOfText.{begins_pair, Default, Wide, alphabet_by, alphabet_of, units_of_character}
use Rattle.sms_join.proofs.CutLaws.{IsShort}

-- one unit alone, or a pair
pub data IsGroup (opens : ℕ → Bool) : List ℕ → Type 0 where
  Alone : (u : ℕ) → opens u ≡ false → IsGroup opens (u ∷ [])
  Pair : (u v : ℕ) → opens u ≡ true → opens v ≡ false → IsGroup opens (u ∷ v ∷ [])

pub group_short : (opens : ℕ → Bool) (l : List ℕ) → IsGroup opens l → (0 < length l) × (length l ≤ 2)
group_short opens l (Alone u e) = (omega arith, omega arith)
group_short opens l (Pair u v e f) = (omega arith, omega arith)

-- ---- the default alphabet

pub joined_parts : (a b : Option (List ℕ)) (s : List ℕ) → appended a b ≡ Some s → (x : List ℕ) × (y : List ℕ) × (a ≡ Some x) × (b ≡ Some y) × (x ++ y ≡ s)
joined_parts (Some x) (Some y) s e = (x, y, refl, refl, cc)
joined_parts (Some x) None s e = absurd cc
joined_parts None b s e = absurd cc

-- no code of the table is the escape
abbrev are_plain : List (ℕ × ℕ) → Bool
are_plain [] = true
are_plain (entry ∷ others) = not (entry.0 == escape) && are_plain others

pub both : (a b : Bool) → (a && b) ≡ true → (a ≡ true) × (b ≡ true)
both true true e = (refl, refl)
both true false e = absurd cc
both false b e = absurd cc

not_true : (b : Bool) → not b ≡ true → b ≡ false
not_true true e = absurd cc
not_true false e = refl

plain_one : (at code : ℕ) (rest : Option ℕ) (b : Bool) → not (at == escape) ≡ true → (rest ≡ Some code → (code == escape) ≡ false) → cond b (Some at) rest ≡ Some code → (code == escape) ≡ false
plain_one at code rest true plain others f =
    let same : at ≡ code = cc in
    ap (λ n. n == escape) (sym same) ∙ not_true (at == escape) plain
plain_one at code rest false plain others f = others f

plain_code : (table : List (ℕ × ℕ)) (c code : ℕ) → are_plain table ≡ true → code_of table c ≡ Some code → (code == escape) ≡ false
unfolding code_of
plain_code [] c code plain e = absurd cc
plain_code (entry ∷ others) c code plain e =
    let h = both (not (entry.0 == escape)) (are_plain others) plain in
    plain_one entry.0 code (code_of others c) (entry.1 == c) h.0 (plain_code others c code h.1) e

group_by : (c : ℕ) (m e : Option ℕ) (l : List ℕ) → code_of main c ≡ m → code_of extension c ≡ e → code_or_escaped m e ≡ Some l → IsGroup (begins_pair Default) l
group_by c (Some code) e l in_main in_extension is =
    let same : code ∷ [] ≡ l = cc in
    subst (λ x. IsGroup (begins_pair Default) x) same (Alone code (plain_code main c code refl in_main))
group_by c None (Some code) l in_main in_extension is =
    let same : escape ∷ code ∷ [] ≡ l = cc in
    subst (λ x. IsGroup (begins_pair Default) x) same (Pair escape code refl (plain_code extension c code refl in_extension))
group_by c None None l in_main in_extension is = absurd cc

septet_group : (c : ℕ) (l : List ℕ) → septets_of_character c ≡ Some l → IsGroup (begins_pair Default) l
unfolding septets_of_character
septet_group c l is = group_by c (code_of main c) (code_of extension c) l refl refl is

-- the units of a text in the default alphabet are its septets
pub septet_groups : (text septets : List ℕ) → septets_of_text text ≡ Some septets → AllByRecursion (λ c. IsGroup (begins_pair Default) (units_of_character Default c)) text × (flat_map (units_of_character Default) text ≡ septets)
unfolding septets_of_text
septet_groups [] septets e = (tt, cc)
septet_groups (c ∷ text) septets e =
    let p = joined_parts (septets_of_character c) (septets_of_text text) septets e in
    let r = septet_groups text p.1 p.3 in
    let own : units_of_character Default c ≡ p.0 = ap (λ o. unwrap_or o []) p.2 in
    ((subst (λ l. IsGroup (begins_pair Default) l) (sym own) (septet_group c p.0 p.2), r.0), ap (λ l. l ++ flat_map (units_of_character Default) text) own ∙ ap (λ l. p.0 ++ l) r.1 ∙ p.4)

-- ---- 16-bit units

low_is_none : (u : ℕ) → u < 0xD800 → is_high_surrogate u ≡ false
low_is_none u h = grind (arith, nat_tests)

high_is_none : (u : ℕ) → 0xDC00 ≤ u → is_high_surrogate u ≡ false
high_is_none u h = grind (arith, nat_tests)

is_high : (u : ℕ) → 0xD800 ≤ u → u < 0xDC00 → is_high_surrogate u ≡ true
is_high u h l = grind (arith, nat_tests)

single_unit : (c : ℕ) → c < 0x1_0000 → (c < 0xD800) ⊎ ((0xE000 ≤ c) × (c < 0x11_0000)) → IsGroup (begins_pair Wide) (c ∷ [])
single_unit c small (inl low) = Alone c (low_is_none c low)
single_unit c small (inr high) = Alone c (high_is_none c (omega (arith, high.0)))

wide_by : (c : ℕ) (b : Bool) → nat_lt c 0x1_0000 ≡ b → (c < 0xD800) ⊎ ((0xE000 ≤ c) × (c < 0x11_0000)) → IsGroup (begins_pair Wide) (cond b (c ∷ []) ((0xD800 + (c - 0x1_0000) / 0x400) ∷ (0xDC00 + (c - 0x1_0000) % 0x400) ∷ []))
wide_by c true e h = single_unit c (ltb-true c 0x1_0000 e) h
wide_by c false e (inl low) = absurd (omega (arith, low, ltb-false c 0x1_0000 e))
wide_by c false e (inr high) =
    Pair (0xD800 + (c - 0x1_0000) / 0x400) (0xDC00 + (c - 0x1_0000) % 0x400) (is_high (0xD800 + (c - 0x1_0000) / 0x400) (omega arith) (omega (arith, high.1))) (high_is_none (0xDC00 + (c - 0x1_0000) % 0x400) (omega arith))

wide_group : (c : ℕ) → IsScalar c → IsGroup (begins_pair Wide) (units_of_character Wide c)
wide_group c h = wide_by c (nat_lt c 0x1_0000) refl (scalar_cases c h)

pub wide_groups : (text : List ℕ) → AllByRecursion IsScalar text → AllByRecursion (λ c. IsGroup (begins_pair Wide) (units_of_character Wide c)) text
wide_groups [] h = tt
wide_groups (c ∷ text) h = (wide_group c h.0, wide_groups text h.1)

-- ---- either

groups_by : (text : List ℕ) (septets : Option (List ℕ)) → AllByRecursion IsScalar text → septets_of_text text ≡ septets → AllByRecursion (λ c. IsGroup (begins_pair (alphabet_by septets)) (units_of_character (alphabet_by septets) c)) text
groups_by text (Some septets) h e = (septet_groups text septets e).0
groups_by text None h e = wide_groups text h

pub text_groups : (text : List ℕ) → AllByRecursion IsScalar text → AllByRecursion (λ c. IsGroup (begins_pair (alphabet_of text)) (units_of_character (alphabet_of text) c)) text
text_groups text h = groups_by text (septets_of_text text) h refl

pub short_groups : (opens : ℕ → Bool) (own : ℕ → List ℕ) (text : List ℕ) → AllByRecursion (λ c. IsGroup opens (own c)) text → AllByRecursion (IsShort own) text
short_groups opens own [] h = tt
short_groups opens own (c ∷ text) h = (group_short opens (own c) h.0, short_groups opens own text h.1)
