-- The text that septets stand for under tables (3GPP TS 23.038, 6.2.1.2).
use Rattle.std.specs.Prelude.{ℕ, ◌==◌, Bool, true, not, List, [], ◌∷◌, unwrap_or, if◌then◌else◌}
use Rattle.sms_text.specs.Tables.{escape, space, character_of}
use Rattle.sms_language.specs.Tables.{locking_table, single_table}
use Rattle.sms_language.specs.declared.tables.Tables.{Tables}

-- a code alone: of the locking shift table
abbrev pub plain_character : Tables → ℕ → ℕ
plain_character tables code = unwrap_or (character_of (locking_table tables.locking) code) space

-- a code after the escape: of the single shift table; one that it leaves reserved shows the
-- character of the locking shift table (6.2.1.1)
abbrev pub escaped_character : Tables → ℕ → ℕ
escaped_character tables code =
    unwrap_or (character_of (single_table tables.single) code) (plain_character tables code)

-- by cases on the front: the escape and a code after it, or any other code
unfoldable pub text_under : Tables → List ℕ → List ℕ
text_under tables [] = []
text_under tables (code ∷ []) =
    (if code == escape then space else plain_character tables code) ∷ []
text_under tables (code ∷ next ∷ others) =
    if code == escape
    then escaped_character tables next ∷ text_under tables others
    else plain_character tables code ∷ text_under tables (next ∷ others)

-- no escape at the end waits for a code
unfoldable pub ends_whole : List ℕ → Bool
ends_whole [] = true
ends_whole (code ∷ []) = not (code == escape)
ends_whole (code ∷ next ∷ others) =
    if code == escape then ends_whole others else ends_whole (next ∷ others)
