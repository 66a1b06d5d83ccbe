-- What the segments of a message are read as, put together in order (3GPP TS 23.040, 9.2.3.24.1).
use Rattle.std.specs.Prelude.{◌≡◌, ℕ, Bool, true, false, List, map, if◌then◌else◌}
use Rattle.std.specs.Borrow.{Bor}
use Rattle.std.specs.List.{flat_map, list_all}
use Rattle.std.specs.Char.Utf16.{utf16_lossy_chars}
use Rattle.sms_text.specs.TextOfSeptets.{text_of_septets}
use Rattle.sms_tpdu.specs.declared.user_data.concat.Width.{Width}
use Rattle.sms_join.specs.declared.units.Units.{Units}
use Rattle.sms_join.specs.declared.units.Units.TheVariants.{Gsm, Ucs2}
use Rattle.sms_join.specs.UnitsOfText.{IsText, numbers}
use Rattle.sms_join.specs.Cut.{IsCut}

-- segments that are lent
abbrev pub lent : List (Bor Units) → List Units
lent segments = map (λ (u : Bor Units). u.now) segments

abbrev pub is_gsm : Units → Bool
is_gsm (Gsm septets) = true
is_gsm (Ucs2 units) = false

abbrev pub is_ucs2 : Units → Bool
is_ucs2 (Gsm septets) = false
is_ucs2 (Ucs2 units) = true

abbrev pub text_of_units : Units → List ℕ
text_of_units (Gsm septets) = text_of_septets septets
text_of_units (Ucs2 units) = utf16_lossy_chars units

-- the text of the joined units where all segments share an alphabet, else of each segment by itself
unfoldable pub text_of_segments : List Units → List ℕ
text_of_segments segments =
    if list_all is_gsm segments then text_of_septets (flat_map numbers segments)
    else (if list_all is_ucs2 segments then utf16_lossy_chars (flat_map numbers segments)
    else flat_map text_of_units segments)

-- The segments of a text, in order, are read as the text.
abbrev pub CutIsReadAsText : Type 0
CutIsReadAsText =
    (width : Width) (text : List ℕ) (pieces : List Units) → IsText text → IsCut width text pieces
    → text_of_segments pieces ≡ text
