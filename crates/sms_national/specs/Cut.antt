-- How a text is cut under national language tables into the segments of a message (3GPP TS 23.040,
-- 9.2.3.24.1; 3GPP TS 23.038, 6.2.1.2).
use Rattle.std.specs.Prelude.{◌≡◌, ℕ, ◌+◌, ◌<◌, ◌≤◌, true, List, [], ◌∷◌, ◌++◌, length, Some}
use Rattle.std.specs.List.{concat, flat_map}
use Rattle.sms_language.specs.SeptetsUnder.{septets_under}
use Rattle.sms_language.specs.TextUnder.{ends_whole, text_under}
use Rattle.sms_language.specs.declared.tables.Tables.{Tables}
use Rattle.sms_tpdu.specs.declared.user_data.concat.Width.{Width}
use Rattle.sms_national.specs.Rooms.{room_alone, room_beside}

-- A piece of septets by a room, with these septets behind it.
pub record IsPiece (room : ℕ) (piece behind : List ℕ) : Type 0 where
  pub some : 0 < length piece
  pub fits : length piece ≤ room
  -- no escape is cut from its code
  pub whole : ends_whole piece ≡ true
  -- there is no room for a longer one
  pub full : (more rest : List ℕ) → more ++ rest ≡ behind → 0 < length more
      → ends_whole (piece ++ more) ≡ true → room < length piece + length more

-- the pieces of septets by a room, one after another
abbrev pub ArePieces : ℕ → List (List ℕ) → List ℕ → Type 0
ArePieces room [] septets = septets ≡ []
ArePieces room (piece ∷ pieces) septets =
    (behind : List ℕ) × (piece ++ behind ≡ septets) × IsPiece room piece behind
    × ArePieces room pieces behind

-- The pieces in which septets are sent: one where there is room for all, else those by the room
-- beside a place.
pub record AreSent (width : Width) (tables : Tables) (septets : List ℕ)
    (pieces : List (List ℕ)) : Type 0 where
  pub alone : length septets ≤ room_alone tables → pieces ≡ septets ∷ []
  pub parted : room_alone tables < length septets
      → ArePieces (room_beside width tables) pieces septets

-- The pieces in which a text is sent under tables: those of its septets.
abbrev pub IsCutUnder : Width → Tables → List ℕ → List (List ℕ) → Type 0
IsCutUnder width tables text pieces =
    (septets : List ℕ) × (septets_under tables text ≡ Some septets)
    × AreSent width tables septets pieces

-- The pieces of a text have its septets, and their texts together are the text.
abbrev pub CutIsReadAsText : Type 0
CutIsReadAsText =
    (width : Width) (tables : Tables) (text : List ℕ) (pieces : List (List ℕ))
    → IsCutUnder width tables text pieces
    → (septets_under tables text ≡ Some (concat pieces))
    × (flat_map (text_under tables) pieces ≡ text)

-- A text has no second cut.
abbrev pub HasOneCut : Type 0
HasOneCut =
    (width : Width) (tables : Tables) (text : List ℕ) (pieces others : List (List ℕ))
    → IsCutUnder width tables text pieces → IsCutUnder width tables text others
    → others ≡ pieces
