-- Small readers of what is put, which share nothing with it.
use Rattle.std.specs.Prelude.{◌≡◌, ℕ, ◌+◌, ◌*◌, ◌<◌, Bool, true, not, ◌==◌, ◌||◌, nat_lt, if◌then◌else◌, List, [], ◌∷◌, Option, Some, None, option_map, option_and_then, Ok}
use Rattle.std.specs.List.{list_all}
use Rattle.std.specs.Simd.Lanes.{Each1}
use Rattle.hex.specs.Hex.{is_hex_digit, encode_upper}
use Rattle.sms_page.specs.Hexadecimal.{number_of, octets_of}
use Rattle.sms_page.specs.Escapes.{escaped, json, line}

-- where a reader stands: between characters, behind a backslash, or before digits
pub data Place : Type 0 where
  between : Place
  behind_backslash : Place
  before_digits : Place

-- a character in front of what is read behind it
abbrev pub read_before : ℕ → Option (List ℕ) → Option (List ℕ)
read_before octet rest = option_map (λ text. octet ∷ text) rest

abbrev pub meant_before : Option ℕ → Option (List ℕ) → Option (List ℕ)
meant_before meaning rest = option_and_then (λ octet. read_before octet rest) meaning

-- the number of digits
abbrev pub code_of : List ℕ → ℕ → Option ℕ
code_of [] code = Some code
code_of (x ∷ digits) code =
    if is_hex_digit x then code_of digits (code * 16 + number_of x) else None

-- what a letter behind a backslash means in JSON
abbrev pub json_meaning : ℕ → Option ℕ
json_meaning letter =
    if (letter == 34) || (letter == 92) || (letter == 47) then Some letter
    else if letter == 98 then Some 8
    else if letter == 116 then Some 9
    else if letter == 110 then Some 10
    else if letter == 102 then Some 12
    else if letter == 114 then Some 13
    else None

-- the text that stands between the quotes of a string of JSON
unfoldable pub read_json : Place → List ℕ → Option (List ℕ)
read_json between [] = Some []
read_json between (x ∷ xs) =
    if x == 92 then read_json behind_backslash xs
    else if (x == 34) || nat_lt x 32 then None
    else read_before x (read_json between xs)
read_json behind_backslash [] = None
read_json behind_backslash (x ∷ xs) =
    if x == 117 then read_json before_digits xs
    else meant_before (json_meaning x) (read_json between xs)
read_json before_digits [] = None
read_json before_digits (a ∷ []) = None
read_json before_digits (a ∷ b ∷ []) = None
read_json before_digits (a ∷ b ∷ c ∷ []) = None
read_json before_digits (a ∷ b ∷ c ∷ d ∷ xs) =
    meant_before (code_of (a ∷ b ∷ c ∷ d ∷ []) 0) (read_json between xs)

-- what a letter behind a backslash means in a line
abbrev pub line_meaning : ℕ → Option ℕ
line_meaning letter =
    if letter == 92 then Some letter
    else if letter == 110 then Some 10
    else if letter == 102 then Some 12
    else if letter == 114 then Some 13
    else None

-- the text that stands in a line
unfoldable pub read_line : Place → List ℕ → Option (List ℕ)
read_line between [] = Some []
read_line between (x ∷ xs) =
    if x == 92 then read_line behind_backslash xs
    else if nat_lt x 32 || (x == 127) then None
    else read_before x (read_line between xs)
read_line behind_backslash [] = None
read_line behind_backslash (x ∷ xs) =
    if x == 120 then read_line before_digits xs
    else meant_before (line_meaning x) (read_line between xs)
read_line before_digits [] = None
read_line before_digits (a ∷ []) = None
read_line before_digits (a ∷ b ∷ xs) = meant_before (code_of (a ∷ b ∷ []) 0) (read_line between xs)

-- an octet that stands in a line, which it neither ends nor hides
abbrev pub stays_in_line : ℕ → Bool
stays_in_line octet = not (nat_lt octet 32 || (octet == 127))

abbrev pub AreOctets : List ℕ → Type 0
AreOctets = Each1 (λ x. x < 256)

-- a text is read back from its string of JSON
abbrev pub JsonReadsBack : Type 0
JsonReadsBack = (text : List ℕ) → AreOctets text → read_json between (escaped json text) ≡ Some text

-- a text is read back from its line
abbrev pub LineReadsBack : Type 0
LineReadsBack = (text : List ℕ) → AreOctets text → read_line between (escaped line text) ≡ Some text

-- a text stays in its line
abbrev pub StaysInLine : Type 0
StaysInLine = (text : List ℕ) → AreOctets text → list_all stays_in_line (escaped line text) ≡ true

-- octets are read back from their digits
abbrev pub DigitsReadBack : Type 0
DigitsReadBack =
    (has_blanks : Bool) (octets : List ℕ) → AreOctets octets
    → octets_of has_blanks (encode_upper octets) ≡ Ok octets
