-- The best of the choices that were tried.
use Rattle.std.specs.Prelude.{◌≡◌, ℕ, ◌<◌, ◌≤◌, List, length, Option, Some, None, Result, Ok, Err}
use Rattle.sms_join.specs.declared.cut.TheConstants.{SEGMENTS_MAX}
use Rattle.sms_join.specs.declared.cut.SplitFault.{SplitFault}
use Rattle.sms_join.specs.declared.cut.SplitFault.TheVariants.{TooManySegments}
use Rattle.sms_join.specs.declared.segment.Segment.{Segment}
use Rattle.sms_national.specs.declared.choice.LanguageSegments.{LanguageSegments}
use Rattle.sms_national.specs.declared.choice.LanguageSegments.TheVariants.{Septets, Ucs2}
use Rattle.sms_tpdu.specs.declared.user_data.concat.Width.{Width}
use Rattle.sms_national.specs.Cut.{IsCutUnder}
use Rattle.sms_national.specs.Segments.{Cut}
use Rattle.sms_national.specs.Choice.{Choice, Under, IsFirstFewest, TakeTooMany}

-- the segments by one of them, or none where each takes too many
abbrev pub IsBest : Width → List ℕ → List Choice → Option Cut → Type 0
IsBest width text all None = TakeTooMany width text all
IsBest width text all (Some cut) =
    (cut.width ≡ width) × IsCutUnder width cut.tables text cut.pieces
    × IsFirstFewest width text all (Under cut.tables) (length cut.pieces)
    × (length cut.pieces ≤ SEGMENTS_MAX)

-- the segments that are fewer; of as many the earlier ones
abbrev pub IsFewer : Option Cut → Cut → Cut → Type 0
IsFewer None cut chosen = chosen ≡ cut
IsFewer (Some best) cut chosen =
    (length best.pieces ≤ length cut.pieces → chosen ≡ best)
    × (length cut.pieces < length best.pieces → chosen ≡ cut)

-- the segments that are fewer; of as many those of septets
abbrev pub IsFewerWide : Option Cut → List Segment → LanguageSegments → Type 0
IsFewerWide None segments chosen = chosen ≡ Ucs2 segments
IsFewerWide (Some best) segments chosen =
    (length best.pieces ≤ length segments → chosen ≡ Septets best)
    × (length segments < length best.pieces → chosen ≡ Ucs2 segments)

-- the segments that were best; none: too many
abbrev pub AreBestOf : Option Cut → Result LanguageSegments SplitFault → Type 0
AreBestOf None result = result ≡ Err TooManySegments
AreBestOf (Some best) result = result ≡ Ok (Septets best)
