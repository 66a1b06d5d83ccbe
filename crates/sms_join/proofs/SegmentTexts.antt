-- Which of the three ways segments are read in.
use Rattle.std.proofs.Common.{◌≡◌, ℕ, ◌+◌, ◌<◌, true, false, List, [], ◌∷◌, ◌++◌, length, drop, get_or, refl, sym, ap, ◌∙◌, append_assoc, append-nil}
use Rattle.std.proofs.lemmas.List.{at_drop_more}
use Rattle.std.proofs.lemmas.Str.{chars-append}
use Rattle.std.specs.Borrow.{Bor}
use Rattle.std.specs.Str.{IsUtf8, chars}
use Rattle.std.specs.List.{flat_map, list_all}
use Rattle.std.specs.Char.Utf16.{utf16_lossy_chars}
use Rattle.sms_text.specs.TextOfSeptets.{text_of_septets}
use Rattle.sms_join.specs.declared.units.Units.{Units}
use Rattle.sms_join.specs.declared.units.Units.TheVariants.{Gsm, Ucs2}
use Rattle.sms_join.specs.UnitsOfText.{numbers}
use Rattle.sms_join.specs.Reading.{is_gsm, is_ucs2, lent, text_of_units, text_of_segments}

pub read_as_septets : (segments : List Units) → list_all is_gsm segments ≡ true → text_of_segments segments ≡ text_of_septets (flat_map numbers segments)
unfolding text_of_segments
read_as_septets segments gsm = rw gsm refl

pub read_as_wide : (segments : List Units) → list_all is_gsm segments ≡ false → list_all is_ucs2 segments ≡ true → text_of_segments segments ≡ utf16_lossy_chars (flat_map numbers segments)
unfolding text_of_segments
read_as_wide segments gsm ucs2 = rw (gsm, ucs2) refl

pub read_by_itself : (segments : List Units) → list_all is_gsm segments ≡ false → list_all is_ucs2 segments ≡ false → text_of_segments segments ≡ flat_map text_of_units segments
unfolding text_of_segments
read_by_itself segments gsm ucs2 = rw (gsm, ucs2) refl

-- one segment more by itself
pub one_text_more : (segments : List (Bor Units)) (i : ℕ) (u : Bor Units) (old new own : List ℕ) → i < length segments → u ≡ get_or segments i u → IsUtf8 old → new ≡ old ++ own → chars own ≡ text_of_units u.now
    → chars old ++ flat_map text_of_units (lent (drop i segments)) ≡ flat_map text_of_units (lent segments) → chars new ++ flat_map text_of_units (lent (drop (i + 1) segments)) ≡ flat_map text_of_units (lent segments)
one_text_more segments i u old new own lt is utf8 grown text so_far =
    let rest : List ℕ = flat_map text_of_units (lent (drop (i + 1) segments)) in
    let front : flat_map text_of_units (lent (drop i segments)) ≡ text_of_units u.now ++ rest = at_drop_more (λ l. flat_map text_of_units (lent l)) segments i u lt ∙ ap (λ (x : Bor Units). text_of_units x.now ++ rest) (sym is) in
    ap (λ l. l ++ rest) (ap chars grown ∙ chars-append old own utf8 ∙ ap (λ l. chars old ++ l) text) ∙ append_assoc (chars old) (text_of_units u.now) rest ∙ ap (λ l. chars old ++ l) (sym front) ∙ so_far

-- one segment is read as its own text
pub one_read : (units : Units) → text_of_segments (units ∷ []) ≡ text_of_units units
one_read (Gsm septets) = read_as_septets (Gsm septets ∷ []) refl ∙ ap text_of_septets (append-nil septets)
one_read (Ucs2 units) = read_as_wide (Ucs2 units ∷ []) refl refl ∙ ap utf16_lossy_chars (append-nil units)
