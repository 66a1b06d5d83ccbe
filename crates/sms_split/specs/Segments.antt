-- What is written of a text that is split.
use Rattle.std.specs.Prelude.{ℕ, ◌&&◌, Bool, not, List, map, Option, None, Some, if◌then◌else◌}
use Rattle.std.specs.Str.{chars}
use Rattle.sms_tpdu.specs.declared.user_data.concat.Width.{Width}
use Rattle.sms_tpdu.specs.declared.user_data.concat.Width.TheVariants.{Eight, Sixteen}
use Rattle.sms_join.specs.declared.segment.Segment.{Segment}
use Rattle.sms_join.specs.Segments.{AreSegments}
use Rattle.sms_national.specs.Choice.{AreFewest, choices}
use Rattle.sms_national.specs.declared.choice.Language.{Language}
use Rattle.sms_national.specs.declared.choice.LanguageSegments.{LanguageSegments}
use Rattle.sms_national.specs.declared.choice.LanguageSegments.TheVariants.{Septets, Ucs2}
use Rattle.sms_split.specs.declared.long_text.Languages.{Languages}
use Rattle.sms_split.specs.declared.long_text.Languages.TheVariants as languages
use Rattle.sms_split.specs.declared.long_text.LongText.{LongText}
use Rattle.sms_split.specs.Lines.{WritesEach}
use Rattle.sms_split.specs.Told.{SegmentTold, national_tolds, told_of}

-- septets are asked for one an octet, but no user data alone
abbrev pub has_wrong_option : LongText → Bool
has_wrong_option long = long.is_single && not long.is_data

-- a reference that takes two octets is of 16 bits, else of 8
abbrev pub width_of : Bool → Width
width_of wide = if wide then Sixteen else Eight

-- The segments of the text are written: those of the default alphabet or of UCS-2.
abbrev pub WritesDefault : Width → LongText → (written written_then : Option (List ℕ)) → Type 0
WritesDefault width long written written_then =
    (segments : List Segment) × AreSegments width (chars long.text.now) segments
    × WritesEach long (map (told_of width long.reference) segments) written written_then

-- what is told of segments under national language tables, or of those in UCS-2
abbrev pub tolds_of : Width → ℕ → LanguageSegments → List SegmentTold
tolds_of width reference (Septets cut) = national_tolds cut reference 1 cut.pieces
tolds_of width reference (Ucs2 segments) = map (told_of width reference) segments

-- The segments of the text are written: those by the tables of a language, or of all, that take
-- the fewest.
abbrev pub WritesFewest : Option Language → Width → LongText
    → (written written_then : Option (List ℕ)) → Type 0
WritesFewest language width long written written_then =
    (segments : LanguageSegments)
    × AreFewest width (chars long.text.now) (choices language) segments
    × WritesEach long (tolds_of width long.reference segments) written written_then

abbrev pub WritesCut : Languages → Width → LongText → (written written_then : Option (List ℕ))
    → Type 0
WritesCut languages.None width long written written_then =
    WritesDefault width long written written_then
WritesCut (languages.One language) width long written written_then =
    WritesFewest (Some language) width long written written_then
WritesCut languages.All width long written written_then =
    WritesFewest None width long written written_then

-- The segments of the text are written, each in a line and in order.
abbrev pub WritesSegments : LongText → (written written_then : Option (List ℕ)) → Type 0
WritesSegments long written written_then =
    WritesCut long.languages (width_of long.wide) long written written_then
