-- A reader may pass this by: contracts of private functions, and proofs, alone cite it.
--
-- The UTF-8 of a character in a word of 32 bits.
use Rattle.std.specs.Prelude.{◌≡◌, ℕ, ◌+◌, ◌*◌, ◌/◌, ◌<◌, ◌≤◌, List, ◌∷◌, length}
use Rattle.std.specs.Char.{encode_utf8}
use Rattle.sms_text.specs.Bits.{AreSeptets}
use Rattle.sms_text.specs.TextOfSeptets.{text_of_septets}
use Rattle.sms_text.specs.Inside.Words.{low_octets}

-- The octets stand lowest first, and the highest octet of the word says how many they are.
pub record SpellsIn (word c : ℕ) : Type 0 where
  pub few : word / 16777216 < 4
  pub octets : low_octets (word / 16777216) word ≡ encode_utf8 c

-- The word spells the first character of the septets, and the others follow it.
pub record StartsText (septets : List ℕ) (word : ℕ) (others : List ℕ) : Type 0 where
  pub character : ℕ
  pub spelled : SpellsIn word character
  pub first : text_of_septets septets ≡ character ∷ text_of_septets others
  -- a septet takes two octets at most
  pub room : word / 16777216 + 2 * length others ≤ 2 * length septets
  pub fewer : length others < length septets
  pub are : AreSeptets others
