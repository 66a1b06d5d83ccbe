-- A reader may pass this by: contracts of private functions, and proofs, alone cite it.
--
-- The UTF-8 of the characters of a table, in words of 32 bits.
use Rattle.std.specs.Prelude.{◌≡◌, ℕ, ◌<◌, List, ◌∷◌, Option, Some, None, length, slice_index}
use Rattle.std.specs.Char.{IsScalar}
use Rattle.sms_text.specs.Bits.{AreSeptets}
use Rattle.sms_text.specs.Tables.{character_of}
use Rattle.sms_text.specs.Inside.Spelled.{SpellsIn}
use Rattle.sms_language.specs.TextUnder.{text_under}
use Rattle.sms_language.specs.declared.tables.Tables.{Tables}

-- The word at each code spells its character, which may stand in a text.
pub record AreWords (words : List ℕ) (character : ℕ → ℕ) : Type 0 where
  pub size : length words ≡ 128
  pub each : (code : ℕ) → code < 128 → SpellsIn (slice_index words code) (character code)
  pub scalar : (code : ℕ) → code < 128 → IsScalar (character code)

-- The word spells the character, if there is one, which may stand in a text; else it is 0.
abbrev pub SpellsMaybe : ℕ → Option ℕ → Type 0
SpellsMaybe word None = word ≡ 0
SpellsMaybe word (Some c) = (0 < word) × SpellsIn word c × IsScalar c

-- The word at each code spells its character in a table; 0 stands where the table has none.
pub record AreWordsOf (words : List ℕ) (table : List (ℕ × ℕ)) : Type 0 where
  pub size : length words ≡ 128
  pub each : (code : ℕ) → code < 128
      → SpellsMaybe (slice_index words code) (character_of table code)

-- The word spells the first character of the septets, and the others follow it.
pub record StartsText (tables : Tables) (septets : List ℕ) (word : ℕ) (others : List ℕ) : Type 0 where
  pub character : ℕ
  pub spelled : SpellsIn word character
  pub scalar : IsScalar character
  pub first : text_under tables septets ≡ character ∷ text_under tables others
  pub fewer : length others < length septets
  pub are : AreSeptets others
