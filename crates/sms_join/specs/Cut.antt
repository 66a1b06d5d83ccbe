-- How a text is cut into the segments of a message (3GPP TS 23.040, 9.2.3.24.1 and 9.2.3.24.8).
use Rattle.std.specs.Prelude.{◌≡◌, ℕ, ◌+◌, ◌/◌, ◌<◌, ◌≤◌, List, [], ◌∷◌, ◌++◌, length, map}
use Rattle.std.specs.List.{concat, flat_map, AllByRecursion}
use Rattle.sms_tpdu.specs.declared.user_data.lengths.TheConstants.{OCTETS_MAX, SEPTETS_MAX}
use Rattle.sms_tpdu.specs.declared.user_data.concat.Width.{Width}
use Rattle.sms_tpdu.specs.declared.user_data.concat.Width.TheVariants.{Eight, Sixteen}
use Rattle.sms_join.specs.declared.units.Units.{Units}
use Rattle.sms_join.specs.UnitsOfText.{IsText, Alphabet, Default, Wide, alphabet_of, units_of_character, units_of_text, units_in, numbers}

-- how many units a message has room for
abbrev pub room_alone : Alphabet → ℕ
room_alone Default = SEPTETS_MAX
room_alone Wide = OCTETS_MAX / 2

-- how many units a segment has room for beside its header
abbrev pub room_beside : Width → Alphabet → ℕ
room_beside Eight Default = 153
room_beside Eight Wide = 67
room_beside Sixteen Default = 152
room_beside Sixteen Wide = 66

-- A text is cut by a room, where `own` gives the units of a character.
pub record IsCutBy (own : ℕ → List ℕ) (room : ℕ) (text : List ℕ)
    (pieces : List (List ℕ)) : Type 0 where
  -- joined, the pieces are the units of the text
  pub joined : concat pieces ≡ flat_map own text
  pub none_empty : AllByRecursion (λ piece. 0 < length piece) pieces
  pub none_over_room : AllByRecursion (λ piece. length piece ≤ room) pieces
  -- none ends inside a character: up to its end stand the units of whole characters
  pub at_characters : (front back : List (List ℕ)) → front ++ back ≡ pieces
      → (before : List ℕ) × (after : List ℕ) × (before ++ after ≡ text)
      × (concat front ≡ flat_map own before)
  -- a piece that ends before another character has no room for it
  pub full : (front back : List (List ℕ)) (piece before after : List ℕ) (next : ℕ)
      → front ++ piece ∷ back ≡ pieces
      → before ++ next ∷ after ≡ text
      → concat (front ++ piece ∷ []) ≡ flat_map own before
      → room < length piece + length (own next)

-- The units of a text are cut by a room.
pub record IsParted (room : ℕ) (text : List ℕ) (pieces : List Units) : Type 0 where
  pub lists : List (List ℕ)
  pub in_alphabet : pieces ≡ map (units_in (alphabet_of text)) lists
  pub cut : IsCutBy (units_of_character (alphabet_of text)) room text lists

-- The pieces in which a text is sent: one where there is room for all its units, else those by the
-- room beside a header.
pub record IsCut (width : Width) (text : List ℕ) (pieces : List Units) : Type 0 where
  pub alone : length (numbers (units_of_text text)) ≤ room_alone (alphabet_of text)
      → pieces ≡ units_of_text text ∷ []
  pub parted : room_alone (alphabet_of text) < length (numbers (units_of_text text))
      → IsParted (room_beside width (alphabet_of text)) text pieces

-- Each text has a cut, and no other.
abbrev pub HasOneCut : Type 0
HasOneCut = (width : Width) (text : List ℕ) → IsText text
    → (pieces : List Units) × IsCut width text pieces
    × ((others : List Units) → IsCut width text others → others ≡ pieces)
