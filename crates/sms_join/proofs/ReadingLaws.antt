-- The pieces of a text are read as the text.
use Rattle.std.proofs.Common.{◌≡◌, ℕ, ◌+◌, ◌-◌, ◌/◌, ◌%◌, ◌<◌, ◌≤◌, ◌⊎◌, inl, inr, Bool, true, false, cond, List, [], ◌∷◌, ◌++◌, length, map, get_or, Option, Some, None, refl, sym, ap, ◌∙◌, arith}
use Rattle.std.specs.Prelude.{nat_lt, unwrap_or}
use Rattle.std.proofs.lemmas.Bool.{cases_lt, ltb-false}
use Rattle.std.proofs.lemmas.Bool.Decides.{nat_tests}
use Rattle.std.proofs.lemmas.List.{append-nil}
use Rattle.std.proofs.lemmas.Str.{utf16_chars-nil, utf16_chars_lone, utf16_chars_pair}
use Rattle.std.proofs.Math.Utf8.{scalar_cases}
use Rattle.std.specs.List.{concat, flat_map, list_all}
use Rattle.std.specs.Char.Escape.{encode_utf16}
use Rattle.std.specs.Char.Utf16.{utf16_chars, utf16_lossy_chars, surrogate_pair_char, lone_unit_char}
use Rattle.sms_text.specs.SeptetsOfText.{septets_of_text}
use Rattle.sms_text.specs.TextOfSeptets.{text_of_septets}
use Rattle.sms_text.specs.Inside.TextLaws.{text_again}
use Rattle.sms_tpdu.specs.declared.user_data.concat.Width.{Width}
use Rattle.sms_join.specs.declared.units.Units.{Units}
use Rattle.sms_join.specs.declared.units.Units.TheVariants.{Gsm, Ucs2}
use Rattle.sms_join.specs.UnitsOfText.{IsText, alphabet_by, alphabet_of, units_of_character, units_of_text, units_in, numbers}
use Rattle.sms_join.specs.Cut.{room_alone, IsCut}
use Rattle.sms_join.specs.Reading.{is_gsm, is_ucs2, text_of_segments}
use Rattle.sms_join.proofs.CutLaws.{no_units}
use Rattle.sms_join.proofs.GroupLaws.{septet_groups}
use Rattle.sms_join.proofs.OneCut.{short_text}

-- ---- 16-bit units

lone_is : (c : ℕ) → (c < 0xD800) ⊎ ((0xE000 ≤ c) × (c < 0x11_0000)) → lone_unit_char c ≡ Some c
lone_is c (inl low) = grind (arith, nat_tests)
lone_is c (inr high) = let above = high.0 in grind (arith, nat_tests)

not_high : (c v : ℕ) → (c < 0xD800) ⊎ ((0xE000 ≤ c) × (c < 0x11_0000)) → (0xD800 ≤ c) × (c < 0xDC00) × (0xDC00 ≤ v) × (v < 0xE000) → ⊥
not_high c v (inl low) p = omega (arith, low, p.0)
not_high c v (inr high) p = omega (arith, high.0, p.1)

first_back : (c : ℕ) (rest : List ℕ) (b : Bool) → nat_lt c 0x1_0000 ≡ b → (c < 0xD800) ⊎ ((0xE000 ≤ c) × (c < 0x11_0000))
    → utf16_chars (cond b (c ∷ []) ((0xD800 + (c - 0x1_0000) / 0x400) ∷ (0xDC00 + (c - 0x1_0000) % 0x400) ∷ []) ++ rest) ≡ Some c ∷ utf16_chars rest
first_back c rest true e h = utf16_chars_lone c rest (λ p. not_high c (get_or rest 0 0) h p) ∙ ap (λ (o : Option ℕ). o ∷ utf16_chars rest) (lone_is c h)
first_back c rest false e (inl low) = absurd (omega (arith, low, ltb-false c 0x1_0000 e))
first_back c rest false e (inr high) =
    let back : surrogate_pair_char (0xD800 + (c - 0x1_0000) / 0x400) (0xDC00 + (c - 0x1_0000) % 0x400) ≡ c = omega (arith, ltb-false c 0x1_0000 e) in
    utf16_chars_pair (0xD800 + (c - 0x1_0000) / 0x400) (0xDC00 + (c - 0x1_0000) % 0x400) rest (omega arith, omega (arith, high.1), omega arith, omega arith)
    ∙ ap {B = List (Option ℕ)} (λ n. Some n ∷ utf16_chars rest) back

chars_back : (text : List ℕ) → IsText text → utf16_chars (flat_map encode_utf16 text) ≡ map (λ (c : ℕ). Some c) text
chars_back [] h = utf16_chars-nil
chars_back (c ∷ text) h =
    first_back c (flat_map encode_utf16 text) (nat_lt c 0x1_0000) refl (scalar_cases c h.0) ∙ ap (λ (l : List (Option ℕ)). Some c ∷ l) (chars_back text h.1)

known : (text : List ℕ) → map (λ (o : Option ℕ). unwrap_or o 0xFFFD) (map (λ (c : ℕ). Some c) text) ≡ text
known [] = refl
known (c ∷ text) = ap (λ (l : List ℕ). c ∷ l) (known text)

-- the text of the 16-bit units of a text is the text
wide_again : (text : List ℕ) → IsText text → utf16_lossy_chars (flat_map encode_utf16 text) ≡ text
wide_again text h = ap (map (λ (o : Option ℕ). unwrap_or o 0xFFFD)) (chars_back text h) ∙ known text

-- ---- segments of one alphabet

all_gsm : (lists : List (List ℕ)) → list_all is_gsm (map Gsm lists) ≡ true
all_gsm [] = refl
all_gsm (l ∷ lists) = all_gsm lists

all_ucs2 : (lists : List (List ℕ)) → list_all is_ucs2 (map Ucs2 lists) ≡ true
all_ucs2 [] = refl
all_ucs2 (l ∷ lists) = all_ucs2 lists

gsm_numbers : (lists : List (List ℕ)) → flat_map numbers (map Gsm lists) ≡ concat lists
gsm_numbers [] = refl
gsm_numbers (l ∷ lists) = ap (λ x. l ++ x) (gsm_numbers lists)

ucs2_numbers : (lists : List (List ℕ)) → flat_map numbers (map Ucs2 lists) ≡ concat lists
ucs2_numbers [] = refl
ucs2_numbers (l ∷ lists) = ap (λ x. l ++ x) (ucs2_numbers lists)

gsm_text : (lists : List (List ℕ)) → text_of_segments (map Gsm lists) ≡ text_of_septets (concat lists)
unfolding text_of_segments
gsm_text lists = rw (all_gsm lists) (ap text_of_septets (gsm_numbers lists))

ucs2_text : (l : List ℕ) (lists : List (List ℕ)) → text_of_segments (map Ucs2 (l ∷ lists)) ≡ utf16_lossy_chars (concat (l ∷ lists))
unfolding text_of_segments
ucs2_text l lists = rw (all_ucs2 lists) (ap utf16_lossy_chars (ucs2_numbers (l ∷ lists)))

-- ---- the pieces

no_septets : septets_of_text [] ≡ None → ⊥
unfolding septets_of_text
no_septets e = cc

back_by : (text : List ℕ) (lists : List (List ℕ)) (septets : Option (List ℕ)) → IsText text → septets_of_text text ≡ septets → (concat lists ≡ [] → text ≡ []) → concat lists ≡ flat_map (units_of_character (alphabet_by septets)) text
    → text_of_segments (map (units_in (alphabet_by septets)) lists) ≡ text
back_by text lists (Some septets) is e none joined = gsm_text lists ∙ ap text_of_septets (joined ∙ (septet_groups text septets e).1) ∙ text_again text septets e
back_by text [] None is e none joined = absurd (no_septets (ap septets_of_text (sym (none refl)) ∙ e))
back_by text (l ∷ lists) None is e none joined = ucs2_text l lists ∙ ap utf16_lossy_chars joined ∙ wide_again text is

lists_of : (width : Width) (text : List ℕ) (pieces : List Units) → IsCut width text pieces
    → (lists : List (List ℕ)) × (pieces ≡ map (units_in (alphabet_of text)) lists) × (concat lists ≡ flat_map (units_of_character (alphabet_of text)) text)
lists_of width text pieces cut = go (cases_lt (room_alone (alphabet_of text)) (length (numbers (units_of_text text))))
  where
    go : (room_alone (alphabet_of text) < length (numbers (units_of_text text))) ⊎ (length (numbers (units_of_text text)) ≤ room_alone (alphabet_of text))
        → (lists : List (List ℕ)) × (pieces ≡ map (units_in (alphabet_of text)) lists) × (concat lists ≡ flat_map (units_of_character (alphabet_of text)) text)
    go (inl more) = let parts = cut.parted more in (parts.lists, parts.in_alphabet, parts.cut.joined)
    go (inr fits) = (flat_map (units_of_character (alphabet_of text)) text ∷ [], cut.alone fits, append-nil (flat_map (units_of_character (alphabet_of text)) text))

pub cut_read : (width : Width) (text : List ℕ) (pieces : List Units) → IsText text → IsCut width text pieces → text_of_segments pieces ≡ text
cut_read width text pieces is cut =
    let l = lists_of width text pieces cut in
    ap text_of_segments l.1 ∙ back_by text l.0 (septets_of_text text) is refl (λ none. no_units (units_of_character (alphabet_of text)) text (short_text text is) (ap length (sym l.2 ∙ none))) l.2
