-- Texts in a string of JSON, and in one line. Each escape stands for one octet, since the characters
-- of several octets have none below 128.
use Rattle.std.specs.Prelude.{ℕ, ◌/◌, ◌%◌, List, [], ◌∷◌, ◌++◌, ◌==◌, ◌||◌, nat_lt, slice_index, flat_map, codes, if◌then◌else◌}
use Rattle.sms_page.specs.Plain.{is_stop}

-- how a text is escaped: the octet that is escaped besides control characters and the backslash;
-- the letter behind a backslash that stands for an octet, or 0; what stands before the two digits
-- of an octet that has no letter
pub record Escapes : Type 0 where
  pub other : ℕ
  pub letter : ℕ → ℕ
  pub prefix : List ℕ

-- two digits, in lower case
abbrev pub two_lower : ℕ → List ℕ
two_lower octet =
    slice_index (codes "0123456789abcdef") (octet / 16)
    ∷ slice_index (codes "0123456789abcdef") (octet % 16) ∷ []

-- how an octet stands there
abbrev pub escape : Escapes → ℕ → List ℕ
escape rule octet =
    if nat_lt 0 (rule.letter octet) then 92 ∷ rule.letter octet ∷ []
    else if is_stop rule.other octet then rule.prefix ++ two_lower octet
    else octet ∷ []

-- how a text stands there
unfoldable pub escaped : Escapes → List ℕ → List ℕ
escaped rule text = flat_map (escape rule) text

-- a quote and a backslash for themselves, b, t, n, f and r
abbrev pub json_letter : ℕ → ℕ
json_letter octet =
    if (octet == 34) || (octet == 92) then octet
    else if octet == 8 then 98
    else if octet == 9 then 116
    else if octet == 10 then 110
    else if octet == 12 then 102
    else if octet == 13 then 114
    else 0

-- a string of JSON
abbrev pub json : Escapes
json = record { other = 34; letter = json_letter; prefix = codes "\\u00" }

-- a backslash for itself, n, f and r
abbrev pub line_letter : ℕ → ℕ
line_letter octet =
    if octet == 92 then octet
    else if octet == 10 then 110
    else if octet == 12 then 102
    else if octet == 13 then 114
    else 0

-- one line
abbrev pub line : Escapes
line = record { other = 127; letter = line_letter; prefix = codes "\\x" }
