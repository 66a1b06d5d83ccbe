-- How a text is sent: of several ways the first that takes the fewest segments.
use Rattle.std.specs.Prelude.{◌≡◌, ℕ, ◌<◌, ◌≤◌, All, List, [], ◌∷◌, ◌++◌, length, map, Option, Some, None}
use Rattle.std.specs.List.{AllByRecursion}
use Rattle.sms_language.specs.Tables.{default_tables}
use Rattle.sms_language.specs.declared.tables.Locking.TheVariants as locking
use Rattle.sms_language.specs.declared.tables.Single.TheVariants as single
use Rattle.sms_language.specs.declared.tables.Tables.{Tables}
use Rattle.sms_tpdu.specs.declared.user_data.concat.Width.{Width}
use Rattle.sms_join.specs.declared.cut.TheConstants.{SEGMENTS_MAX}
use Rattle.sms_join.specs.declared.units.Units.{Units}
use Rattle.sms_join.specs.UnitsOfText.{alphabet_of}
use Rattle.sms_join.specs.UnitsOfText as units
use Rattle.sms_join.specs.Cut.{IsCut}
use Rattle.sms_join.specs.Segments.{AreSegments}
use Rattle.sms_join.specs.Segments.User.{IsSendable}
use Rattle.sms_national.specs.Cut.{IsCutUnder}
use Rattle.sms_national.specs.declared.choice.Language.{Language}
use Rattle.sms_national.specs.declared.choice.Language.TheVariants.{Turkish, Spanish, Portuguese}
use Rattle.sms_national.specs.declared.choice.LanguageSegments.{LanguageSegments}
use Rattle.sms_national.specs.declared.choice.LanguageSegments.TheVariants.{Septets, Ucs2}

-- as septets under tables, or as UCS-2
pub data Choice : Type 0 where
  Under : Tables → Choice
  Wide : Choice

-- ---- in which order they stand

abbrev pub turkish_single : Tables
turkish_single = record { locking = locking.Default; single = single.Turkish }

abbrev pub turkish_locking : Tables
turkish_locking = record { locking = locking.Turkish; single = single.Default }

abbrev pub turkish_both : Tables
turkish_both = record { locking = locking.Turkish; single = single.Turkish }

abbrev pub spanish_single : Tables
spanish_single = record { locking = locking.Default; single = single.Spanish }

abbrev pub portuguese_single : Tables
portuguese_single = record { locking = locking.Default; single = single.Portuguese }

abbrev pub portuguese_locking : Tables
portuguese_locking = record { locking = locking.Portuguese; single = single.Default }

abbrev pub portuguese_both : Tables
portuguese_both = record { locking = locking.Portuguese; single = single.Portuguese }

-- the tables of a language, those of the default alphabet first, those of two elements last; or
-- those of all languages
abbrev pub tables_in : Option Language → List Tables
tables_in (Some Turkish) =
    default_tables ∷ turkish_single ∷ turkish_locking ∷ turkish_both ∷ []
tables_in (Some Spanish) = default_tables ∷ spanish_single ∷ []
tables_in (Some Portuguese) =
    default_tables ∷ portuguese_single ∷ portuguese_locking ∷ portuguese_both ∷ []
tables_in None =
    default_tables
    ∷ turkish_single ∷ turkish_locking ∷ spanish_single ∷ portuguese_single ∷ portuguese_locking
    ∷ turkish_both ∷ portuguese_both ∷ []

-- UCS-2 is the last choice
abbrev pub choices : Option Language → List Choice
choices language = map Under (tables_in language) ++ Wide ∷ []

-- ---- how many segments they take

pub record TakesUnder (width : Width) (text : List ℕ) (tables : Tables) (count : ℕ) : Type 0 where
  pub pieces : List (List ℕ)
  pub cut : IsCutUnder width tables text pieces
  pub many : count ≡ length pieces

-- UCS-2 is a choice where the default alphabet lacks a character: else it takes no fewer
pub record TakesWide (width : Width) (text : List ℕ) (count : ℕ) : Type 0 where
  pub lacks : alphabet_of text ≡ units.Wide
  pub pieces : List Units
  pub cut : IsCut width text pieces
  pub many : count ≡ length pieces

-- the text takes so many segments by a choice
abbrev pub Takes : Width → List ℕ → Choice → ℕ → Type 0
Takes width text (Under tables) count = TakesUnder width text tables count
Takes width text Wide count = TakesWide width text count

-- Of these choices the first by which the text takes the fewest segments.
pub record IsFirstFewest (width : Width) (text : List ℕ) (all : List Choice) (choice : Choice)
    (count : ℕ) : Type 0 where
  pub takes : Takes width text choice count
  pub front : List Choice
  pub back : List Choice
  pub parts : all ≡ front ++ choice ∷ back
  -- those before it take more, those after it no fewer
  pub before : AllByRecursion
      (λ other. (more : ℕ) → Takes width text other more → count < more) front
  pub after : AllByRecursion
      (λ other. (more : ℕ) → Takes width text other more → count ≤ more) back

-- by none of these choices the text takes at most 255 segments
abbrev pub TakeTooMany : Width → List ℕ → List Choice → Type 0
TakeTooMany width text all =
    AllByRecursion (λ choice. (count : ℕ) → Takes width text choice count → SEGMENTS_MAX < count)
    all

-- The segments of a text by the choice that takes the fewest.
abbrev pub AreFewest : Width → List ℕ → List Choice → LanguageSegments → Type 0
AreFewest width text all (Septets cut) =
    (cut.width ≡ width) × IsCutUnder width cut.tables text cut.pieces
    × IsFirstFewest width text all (Under cut.tables) (length cut.pieces)
AreFewest width text all (Ucs2 segments) =
    AreSegments width text segments × All (IsSendable width) segments
    × IsFirstFewest width text all Wide (length segments)
