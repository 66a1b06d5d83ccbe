-- The header of a segment under national language tables: first its place, where there are others,
-- then the table after the escape, then the table of a code alone (3GPP TS 23.040, 9.2.3.24.1,
-- 9.2.3.24.8, 9.2.3.24.15 and 9.2.3.24.16).
use Rattle.std.specs.Prelude.{ℕ, List, [], ◌∷◌, ◌++◌, ◌==◌, Option, Some, None, if◌then◌else◌}
use Rattle.std.specs.List.{flat_map}
use Rattle.sms_language.specs.declared.tables.Locking.{Locking}
use Rattle.sms_language.specs.declared.tables.Locking.TheVariants as locking
use Rattle.sms_language.specs.declared.tables.Single.{Single}
use Rattle.sms_language.specs.declared.tables.Single.TheVariants as single
use Rattle.sms_language.specs.declared.tables.Tables.{Tables}
use Rattle.sms_language.specs.declared.tables.TheConstants.{SINGLE_SHIFT, LOCKING_SHIFT}
use Rattle.sms_tpdu.specs.declared.user_data.concat.Width.{Width}
use Rattle.sms_tpdu.specs.UserData.Elements.{Element, element_octets}
use Rattle.sms_tpdu.specs.UserData.Concatenation.{element_for}

-- an element of one octet, the national language identifier
abbrev pub language_element : ℕ → ℕ → Element
language_element identifier language = record { identifier = identifier; octets = language ∷ [] }

-- element 24, but for the extension table of the default alphabet
abbrev pub single_elements : Single → List Element
single_elements single.Default = []
single_elements single.Turkish = language_element SINGLE_SHIFT 1 ∷ []
single_elements single.Spanish = language_element SINGLE_SHIFT 2 ∷ []
single_elements single.Portuguese = language_element SINGLE_SHIFT 3 ∷ []

-- element 25, but for the default alphabet
abbrev pub locking_elements : Locking → List Element
locking_elements locking.Default = []
locking_elements locking.Turkish = language_element LOCKING_SHIFT 1 ∷ []
locking_elements locking.Portuguese = language_element LOCKING_SHIFT 3 ∷ []

abbrev pub table_elements : Tables → List Element
table_elements tables = single_elements tables.single ++ locking_elements tables.locking

-- the place of a segment, where there are others
abbrev pub place_elements : Width → ℕ → ℕ → ℕ → List Element
place_elements width reference maximum sequence =
    if maximum == 1 then [] else element_for width reference maximum sequence ∷ []

-- the header that elements spell; none where there are none
abbrev pub header_of : List Element → Option (List ℕ)
header_of [] = None
header_of (element ∷ others) = Some (flat_map element_octets (element ∷ others))

-- the header of a segment
abbrev pub segment_header : Tables → Width → ℕ → ℕ → ℕ → Option (List ℕ)
segment_header tables width reference maximum sequence =
    header_of (place_elements width reference maximum sequence ++ table_elements tables)
