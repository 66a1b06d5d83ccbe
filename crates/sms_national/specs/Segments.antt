-- The segments of a text that is cut under national language tables.
use Rattle.std.specs.Prelude.{ℕ, ◌<◌, ◌≤◌, List, length}
use Rattle.std.specs.List.{AllByRecursion}
use Rattle.sms_join.specs.declared.cut.TheConstants.{SEGMENTS_MAX}
use Rattle.sms_language.specs.declared.tables.Tables.{Tables}
use Rattle.sms_tpdu.specs.declared.user_data.concat.Width.{Width}
use Rattle.sms_tpdu.specs.declared.user_data.body.Body.TheVariants as body
use Rattle.sms_tpdu.specs.declared.user_data.UserData.{UserData}
use Rattle.sms_national.specs.Header.{segment_header}
use Rattle.sms_national.specs.Rooms.{room_alone, room_beside}

-- Pieces of septets, in order, and what their headers tell.
pub record Cut : Type 0 where
  pub tables : Tables
  pub width : Width
  pub pieces : List (List ℕ)

abbrev pub cut_of : Tables → Width → List (List ℕ) → Cut
cut_of tables width pieces = record { tables = tables; width = width; pieces = pieces }

-- Each has room beside its header, and their number has room in an octet.
pub record IsSendable (cut : Cut) : Type 0 where
  pub some : 1 ≤ length cut.pieces
  pub few : length cut.pieces ≤ SEGMENTS_MAX
  pub alone : AllByRecursion (λ piece. length piece ≤ room_alone cut.tables) cut.pieces
  pub beside : 1 < length cut.pieces
      → AllByRecursion (λ piece. length piece ≤ room_beside cut.width cut.tables) cut.pieces

-- the user data of a piece with this sequence
abbrev pub user_of : Cut → ℕ → ℕ → List ℕ → UserData
user_of cut reference sequence piece =
    record {
      header = segment_header cut.tables cut.width reference (length cut.pieces) sequence;
      body = body.Septets piece;
    }
