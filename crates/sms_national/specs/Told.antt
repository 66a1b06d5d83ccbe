-- What the header of a segment is read as: its tables, and its place (3GPP TS 23.040, 9.2.3.24).
use Rattle.std.specs.Prelude.{◌≡◌, ℕ, ◌≤◌, ◌==◌, List, Option, Some, None, if◌then◌else◌}
use Rattle.sms_language.specs.declared.tables.Tables.{Tables}
use Rattle.sms_tpdu.specs.declared.user_data.concat.Concat.{Concat}
use Rattle.sms_tpdu.specs.declared.user_data.concat.Width.{Width}
use Rattle.sms_tpdu.specs.UserData.Concatenation.{IsConcatOf}
use Rattle.sms_tpdu.specs.UserData.Languages.{IsToldIn}
use Rattle.sms_national.specs.Header.{segment_header}

-- it tells the tables of the text, and no others
abbrev pub HeadersTellTables : Type 0
HeadersTellTables =
    (tables other : Tables) (width : Width) (reference maximum sequence : ℕ)
    → IsToldIn (segment_header tables width reference maximum sequence) tables
    × (IsToldIn (segment_header tables width reference maximum sequence) other → other ≡ tables)

-- the place of a segment, where there are other segments
abbrev pub place_of : Width → ℕ → ℕ → ℕ → Option Concat
place_of width reference maximum sequence =
    if maximum == 1
    then None
    else Some (record {
      width = width;
      reference = reference;
      maximum = maximum;
      sequence = sequence;
    })

-- user data without a header tell no place
abbrev pub TellsConcat : Option Concat → Option (List ℕ) → Type 0
TellsConcat place None = place ≡ None
TellsConcat place (Some header) = IsConcatOf header place

-- it tells the place of the segment
abbrev pub HeadersTellPlaces : Type 0
HeadersTellPlaces =
    (tables : Tables) (width : Width) (reference maximum sequence : ℕ)
    → 1 ≤ sequence → sequence ≤ maximum
    → TellsConcat (place_of width reference maximum sequence)
    (segment_header tables width reference maximum sequence)
