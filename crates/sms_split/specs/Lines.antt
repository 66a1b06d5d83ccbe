-- The lines of segments.
use Rattle.std.specs.Prelude.{◌≡◌, ℕ, Bool, false, List, [], ◌∷◌, ◌++◌, Option, codes, decimal, if◌then◌else◌}
use Rattle.std.specs.Io.KnownBytes.{Appends}
use Rattle.hex.specs.Hex.{encode_upper}
use Rattle.sms_page.specs.Object.{Token, json_string, texts, object, end_object, name, value}
use Rattle.sms_page.specs.Page.{hexadecimal, quoted}
use Rattle.sms_told.specs.declared.form.Form.{Form}
use Rattle.sms_told.specs.declared.form.Form.TheVariants.{Plain, Json}
use Rattle.sms_tpdu.specs.UserData.{has_header, length_in}
use Rattle.sms_told.specs.Texts.{line_end}
use Rattle.sms_split.specs.declared.long_text.LongText.{LongText}
use Rattle.sms_split.specs.Octets.{HasOctets}
use Rattle.sms_split.specs.Told.{SegmentTold}

abbrev pub header_word : Bool → List ℕ
header_word is_headed = if is_headed then codes " yes" else codes " no"

-- the name of the alphabet; of user data alone its coding scheme (TP-DCS) in hexadecimal, and
-- whether a header stands in front (TP-UDHI)
abbrev pub coding : Bool → List ℕ → ℕ → Bool → List ℕ
coding is_data alphabet coding_scheme is_headed =
    if is_data then encode_upper (coding_scheme ∷ []) ++ header_word is_headed else alphabet

-- the sequence and the maximum, how the user data are coded, their length (TP-UDL), and the
-- octets in hexadecimal
abbrev pub line_text : (sequence maximum : ℕ) → (coded : List ℕ) → (size : ℕ) → (octets : List ℕ)
    → List ℕ
line_text sequence maximum coded size octets =
    decimal sequence ++ codes "/" ++ decimal maximum ++ codes " " ++ coded ++ codes " "
    ++ decimal size ++ codes " " ++ hexadecimal octets ++ line_end

-- the line of a segment that tells these octets
abbrev pub segment_line : Bool → SegmentTold → List ℕ → List ℕ
segment_line is_data told octets =
    line_text told.sequence told.maximum
    (coding is_data told.alphabet told.coding_scheme (has_header told.user))
    (length_in told.user) octets

-- the name of the alphabet; of user data alone its coding scheme (TP-DCS), and whether a header
-- stands in front (TP-UDHI)
abbrev pub coding_members : Bool → List ℕ → ℕ → Bool → List Token
coding_members is_data alphabet coding_scheme is_headed =
    if is_data
    then name (codes "dcs") ∷ value (decimal coding_scheme) ∷ name (codes "header")
    ∷ value (if is_headed then codes "true" else codes "false") ∷ []
    else name (codes "alphabet") ∷ value (json_string alphabet) ∷ []

-- the same as an object of JSON
abbrev pub line_object : (sequence maximum : ℕ) → (coded : List Token) → (size : ℕ)
    → (octets : List ℕ) → List Token
line_object sequence maximum coded size octets =
    (object ∷ name (codes "sequence") ∷ value (decimal sequence)
    ∷ name (codes "maximum") ∷ value (decimal maximum) ∷ [])
    ++ coded
    ++ (name (codes "length") ∷ value (decimal size)
    ∷ name (codes "octets") ∷ value (quoted false (encode_upper octets) false) ∷ end_object ∷ [])

-- the object of a segment that tells these octets
abbrev pub segment_object : Bool → SegmentTold → List ℕ → List Token
segment_object is_data told octets =
    line_object told.sequence told.maximum
    (coding_members is_data told.alphabet told.coding_scheme (has_header told.user))
    (length_in told.user) octets

-- the line of a segment, or in JSON its object in a line
abbrev pub segment_text : Form → Bool → SegmentTold → List ℕ → List ℕ
segment_text Plain is_data told octets = segment_line is_data told octets
segment_text Json is_data told octets = texts false (segment_object is_data told octets) ++ line_end

-- the line of a segment, with the octets of its user data
abbrev pub IsLineOf : LongText → SegmentTold → List ℕ → Type 0
IsLineOf long told line =
    (octets : List ℕ) × HasOctets long.is_single told.user octets
    × (line ≡ segment_text long.form long.is_data told octets)

-- The text has a line for each of these segments, in order, and nothing else.
abbrev pub TellsEach : LongText → List SegmentTold → List ℕ → Type 0
TellsEach long [] text = text ≡ []
TellsEach long (told ∷ others) text =
    (line : List ℕ) × (rest : List ℕ) × (text ≡ line ++ rest)
    × IsLineOf long told line × TellsEach long others rest

-- The lines of segments are written.
pub record WritesEach (long : LongText) (tolds : List SegmentTold)
    (written written_then : Option (List ℕ)) : Type 0 where
  pub text : List ℕ
  pub tells : TellsEach long tolds text
  pub written_so : Appends written written_then text
