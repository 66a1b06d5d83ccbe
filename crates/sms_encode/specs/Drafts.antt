-- What is written where a unit is encoded.
use Rattle.std.specs.Prelude.{◌≡◌, ℕ, ◌≤◌, Bool, false, List, [], ◌++◌, length, Option, codes, decimal, if◌then◌else◌}
use Rattle.std.specs.Io.KnownBytes.{Appends}
use Rattle.std.specs.List.{flat_map}
use Rattle.std.specs.Str.{chars}
use Rattle.hex.specs.Hex.{encode_upper}
use Rattle.sms_tpdu.specs.declared.user_data.concat.Width.{Width}
use Rattle.sms_join.specs.Segments.{AreSegments}
use Rattle.sms_join.specs.declared.segment.Segment.{Segment}
use Rattle.sms_encode.specs.declared.draft.Draft.{Draft}
use Rattle.sms_encode.specs.Frames.{FrameValue, IsFrame}
use Rattle.sms_encode.specs.Units.{AreUnits}

-- These are the segments of the text, of which there is one alone unless it may be split.
pub record AreSegmentsOf (draft : Draft) (width : Width) (segments : List Segment) : Type 0 where
  pub cut : AreSegments width (chars draft.text.now) segments
  pub alone : draft.is_split ≡ false → length segments ≤ 1

-- for a modem the number of the unit's octets and a blank
abbrev pub count_of : Bool → List ℕ → List ℕ
count_of is_for_modem unit = if is_for_modem then decimal (length unit) ++ codes " " else []

-- the line of a unit: that number, the octets before it and its own in upper case digits, and a
-- line feed
abbrev pub line_of : Bool → List ℕ → List ℕ → List ℕ
line_of is_for_modem before unit =
    count_of is_for_modem unit ++ encode_upper before ++ encode_upper unit ++ codes "\n"

-- The text has a line for the unit of each segment, in order, and nothing else.
pub record Encodes (draft : Draft) (text : List ℕ) : Type 0 where
  pub frame : FrameValue
  pub is_frame : IsFrame draft frame
  pub segments : List Segment
  pub are_segments : AreSegmentsOf draft frame.width segments
  pub units : List (List ℕ)
  pub are_units : AreUnits draft frame 0 segments units
  pub whole : text ≡ flat_map (line_of draft.is_for_modem frame.before) units

-- What is asked for is written.
pub record WritesDraft (draft : Draft) (written written_then : Option (List ℕ)) : Type 0 where
  pub text : List ℕ
  pub encodes : Encodes draft text
  pub written_so : Appends written written_then text
