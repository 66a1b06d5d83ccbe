-- The units of a text: septets of the 7-bit default alphabet or 16-bit units (3GPP TS 23.038, 6.2.1
-- and 6.2.3).
use Rattle.std.specs.Prelude.{ℕ, Bool, List, [], Option, Some, None, ◌==◌, unwrap_or}
use Rattle.std.specs.List.{flat_map, AllByRecursion}
use Rattle.std.specs.Char.{IsScalar}
use Rattle.std.specs.Char.Escape.{encode_utf16}
use Rattle.std.specs.Char.Utf16.{is_high_surrogate}
use Rattle.sms_text.specs.Tables.{escape}
use Rattle.sms_text.specs.SeptetsOfText.{septets_of_character, septets_of_text}
use Rattle.sms_join.specs.declared.units.Units.{Units}
use Rattle.sms_join.specs.declared.units.Units.TheVariants.{Gsm, Ucs2}

-- characters
abbrev pub IsText : List ℕ → Type 0
IsText text = AllByRecursion IsScalar text

pub data Alphabet : Type 0 where
  -- the 7-bit default alphabet with its extension
  Default : Alphabet
  -- UCS-2, and a pair of units for a character above U+FFFF
  Wide : Alphabet

-- the default alphabet where each character of the text has septets, else UCS-2
abbrev pub alphabet_by : Option (List ℕ) → Alphabet
alphabet_by (Some septets) = Default
alphabet_by None = Wide

abbrev pub alphabet_of : List ℕ → Alphabet
alphabet_of text = alphabet_by (septets_of_text text)

-- the units of a character: one septet, or the escape and another; one 16-bit unit, or a pair
abbrev pub units_of_character : Alphabet → ℕ → List ℕ
units_of_character Default c = unwrap_or (septets_of_character c) []
units_of_character Wide c = encode_utf16 c

-- the unit begins such a pair
abbrev pub begins_pair : Alphabet → ℕ → Bool
begins_pair Default unit = unit == escape
begins_pair Wide unit = is_high_surrogate unit

-- these numbers as units of the alphabet, and units as numbers
abbrev pub units_in : Alphabet → List ℕ → Units
units_in Default septets = Gsm septets
units_in Wide units = Ucs2 units

abbrev pub numbers : Units → List ℕ
numbers (Gsm septets) = septets
numbers (Ucs2 units) = units

abbrev pub alphabet_in : Units → Alphabet
alphabet_in (Gsm septets) = Default
alphabet_in (Ucs2 units) = Wide

-- the units of the characters, one after another
abbrev pub units_of_text : List ℕ → Units
units_of_text text =
    units_in (alphabet_of text) (flat_map (units_of_character (alphabet_of text)) text)
