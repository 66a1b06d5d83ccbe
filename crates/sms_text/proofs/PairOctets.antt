-- The character of a pair of halves, and that of a half alone, and their octets where they are written.
use Rattle.std.proofs.Common.{◌≡◌, ℕ, ◌+◌, ◌-◌, ◌*◌, ◌/◌, ◌%◌, ◌<◌, ◌≤◌, List, [], ◌∷◌, ◌++◌, length, take, drop, get_or, map, refl, sym, ap, subst, ◌∙◌, append_assoc, arith}
use Rattle.std.specs.Prelude.{Option, unwrap_or}
use Rattle.std.specs.Char.{encode_utf8}
use Rattle.std.specs.Char.Utf16.{surrogate_pair_char, utf16_chars, utf16_lossy_chars}
use Rattle.std.specs.Str.{IsUtf8}
use Rattle.std.proofs.Math.Utf8.{encodes}
use Rattle.std.proofs.str.Laws.{four}
use Rattle.std.proofs.lemmas.List.{take_rest, take_all}
use Rattle.std.proofs.lemmas.Str.{IsUtf8-append, IsUtf8-encode, utf16_chars_lone, utf16_chars_pair}
use Rattle.std.proofs.str.Utf16.{IsPair, lone_unit_char_surrogate}
use borrow.Rule.Slice.PartMut.{put_mid}
use Rattle.sms_text.specs.Inside.Words.{low_octets}
use Rattle.sms_text.specs.Utf16.{units_high_first}
use Rattle.sms_text.proofs.Placed.{first_written}
use Rattle.sms_text.proofs.SpelledTables.{high_scalar}
use Rattle.sms_text.proofs.Ucs2Text.{text_in}

-- the octets of a character above U+FFFF
abbrev four_octets : ℕ → List ℕ
four_octets c = (240 + c / 262144) ∷ (128 + c / 4096 % 64) ∷ (128 + c / 64 % 64) ∷ (128 + c % 64) ∷ []

pub pair_encoded : (u v : ℕ) → four_octets (surrogate_pair_char u v) ≡ encode_utf8 (surrogate_pair_char u v)
pair_encoded u v = sym (four (surrogate_pair_char u v) (omega arith))

-- the text of octets whose first two units are a pair
pair_first : (octets : List ℕ) (u v : ℕ) → 4 ≤ length octets → u ≡ 256 * get_or octets 0 0 + get_or octets 1 0 → v ≡ 256 * get_or octets 2 0 + get_or octets 3 0
    → 55296 ≤ u → u < 56320 → 56320 ≤ v → v < 57344 → text_in octets ≡ surrogate_pair_char u v ∷ text_in (drop 4 octets)
unfolding units_high_first
pair_first [] u v many iu iv lu hu lv hv = absurd (omega arith)
pair_first (a ∷ []) u v many iu iv lu hu lv hv = absurd (omega arith)
pair_first (a ∷ b ∷ []) u v many iu iv lu hu lv hv = absurd (omega arith)
pair_first (a ∷ b ∷ c ∷ []) u v many iu iv lu hu lv hv = absurd (omega arith)
pair_first (a ∷ b ∷ c ∷ d ∷ others) u v many iu iv lu hu lv hv =
    let units : List ℕ = units_high_first others in
    ap (λ (l : List ℕ). utf16_lossy_chars l) (ap (λ (n : ℕ). n ∷ (256 * c + d) ∷ units) (sym iu) ∙ ap (λ (n : ℕ). u ∷ n ∷ units) (sym iv))
    ∙ ap (map (λ o. unwrap_or o 65533)) (utf16_chars_pair u v units (lu, hu, lv, hv))

-- the four octets of a pair that are written at a place
pub pair_placed : (out written octets others : List ℕ) (at many u v : ℕ) → written ≡ encode_utf8 (surrogate_pair_char u v) → at + 4 ≤ length out
    → 4 ≤ length octets → others ≡ take (length octets - 4) (drop 4 octets) → u ≡ 256 * get_or octets 0 0 + get_or octets 1 0 → v ≡ 256 * get_or octets 2 0 + get_or octets 3 0
    → 55296 ≤ u → u < 56320 → 56320 ≤ v → v < 57344
    → (take (at + 4) (put_mid at many out written) ++ encodes (text_in others) ≡ take at out ++ encodes (text_in octets)) × (IsUtf8 (take at out) → IsUtf8 (take (at + 4) (put_mid at many out written)))
pair_placed out written octets others at many u v spelled room enough is iu iv lu hu lv hv =
    let c : ℕ = surrogate_pair_char u v in
    let size : length written ≡ 4 = ap length (spelled ∙ sym (pair_encoded u v)) in
    let whole : take 4 written ≡ written = take_all 4 written (omega (arith, size)) in
    let new : take (at + 4) (put_mid at many out written) ≡ take at out ++ encode_utf8 c = first_written out written at many 4 4 size (omega arith) room ∙ ap (λ (l : List ℕ). take at out ++ l) (whole ∙ spelled) in
    let rest : text_in octets ≡ c ∷ text_in others = pair_first octets u v enough iu iv lu hu lv hv ∙ ap (λ (l : List ℕ). c ∷ text_in l) (sym (is ∙ take_rest octets 4)) in (
      ap (λ (l : List ℕ). l ++ encodes (text_in others)) new ∙ append_assoc (take at out) (encode_utf8 c) (encodes (text_in others)) ∙ ap (λ (l : List ℕ). take at out ++ encodes l) (sym rest),
      λ text. subst IsUtf8 (sym new) (IsUtf8-append _ _ text (IsUtf8-encode c (high_scalar c (omega (arith, lu)) (omega (arith, lu, hu, hv))))),
    )

-- ---- a half without the other

lone_half : (u : ℕ) (rest : List ℕ) → 55296 ≤ u → u < 57344 → ¬ (IsPair u (get_or rest 0 0)) → utf16_lossy_chars (u ∷ rest) ≡ 65533 ∷ utf16_lossy_chars rest
lone_half u rest from below apart =
    ap (map (λ o. unwrap_or o 65533)) (utf16_chars_lone u rest apart ∙ ap (λ (o : Option ℕ). o ∷ utf16_chars rest) (lone_unit_char_surrogate u from below))

-- the text of octets whose first unit is a half, and with the second no pair
half_first : (octets : List ℕ) → 2 ≤ length octets → 216 ≤ get_or octets 0 0 → get_or octets 0 0 < 224 → get_or octets 1 0 < 256
    → (4 ≤ length octets → ¬ (IsPair (256 * get_or octets 0 0 + get_or octets 1 0) (256 * get_or octets 2 0 + get_or octets 3 0))) → text_in octets ≡ 65533 ∷ text_in (drop 2 octets)
unfolding units_high_first
half_first [] many from below fits apart = absurd (omega arith)
half_first (a ∷ []) many from below fits apart = absurd (omega arith)
half_first (a ∷ b ∷ []) many from below fits apart = lone_half (256 * a + b) [] (omega (arith, from)) (omega (arith, below, fits)) (λ pair. omega (arith, pair.2))
half_first (a ∷ b ∷ c ∷ []) many from below fits apart = lone_half (256 * a + b) [] (omega (arith, from)) (omega (arith, below, fits)) (λ pair. omega (arith, pair.2))
half_first (a ∷ b ∷ c ∷ d ∷ others) many from below fits apart =
    lone_half (256 * a + b) ((256 * c + d) ∷ units_high_first others) (omega (arith, from)) (omega (arith, below, fits)) (apart (omega arith))

replaced : low_octets 3 62767087 ≡ encode_utf8 65533
unfolding low_octets encode_utf8
replaced = refl

-- the three octets of U+FFFD that are written for a half alone
half_spelled : (old new : List ℕ) → new ≡ old ++ low_octets 3 62767087 → new ≡ old ++ encode_utf8 65533
half_spelled old new e = e ∙ ap (λ (l : List ℕ). old ++ l) replaced

pub half_placed : (old new octets others : List ℕ) → new ≡ old ++ low_octets 3 62767087 → 2 ≤ length octets → others ≡ take (length octets - 2) (drop 2 octets) → 216 ≤ get_or octets 0 0 → get_or octets 0 0 < 224 → get_or octets 1 0 < 256
    → (4 ≤ length octets → ¬ (IsPair (256 * get_or octets 0 0 + get_or octets 1 0) (256 * get_or octets 2 0 + get_or octets 3 0))) → new ++ encodes (text_in others) ≡ old ++ encodes (text_in octets)
half_placed old new octets others e many is from below fits apart =
    let rest : text_in octets ≡ 65533 ∷ text_in others = half_first octets many from below fits apart ∙ ap (λ (l : List ℕ). 65533 ∷ text_in l) (sym (is ∙ take_rest octets 2)) in
    ap (λ (l : List ℕ). l ++ encodes (text_in others)) (half_spelled old new e) ∙ append_assoc old (encode_utf8 65533) (encodes (text_in others)) ∙ ap (λ (l : List ℕ). old ++ encodes l) (sym rest)

pub half_utf8 : (old new : List ℕ) → new ≡ old ++ low_octets 3 62767087 → IsUtf8 old → IsUtf8 new
half_utf8 old new e text = subst IsUtf8 (sym (half_spelled old new e)) (IsUtf8-append _ _ text (IsUtf8-encode 65533 (high_scalar 65533 (omega arith) (omega arith))))
