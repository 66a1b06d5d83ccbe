-- Texts in one line. Each escape stands for one octet, since the characters of several octets have
-- none below 128.
use Rattle.std.specs.Prelude.{ℕ, ◌/◌, ◌%◌, List, [], ◌∷◌, ◌==◌, ◌||◌, nat_lt, slice_index, flat_map, codes, if◌then◌else◌}
use Rattle.sms_script.specs.Transcript.Appended.{◌⊕◌}
use Rattle.sms_script.specs.declared.transcript.escapes.Escape.{Escape}
use Rattle.sms_script.specs.declared.transcript.escapes.Escape.TheVariants.{Plain, Letter, Digits}

-- two digits, in lower case
abbrev pub two_digits : ℕ → List ℕ
two_digits octet =
    slice_index (codes "0123456789abcdef") (octet / 16)
    ∷ slice_index (codes "0123456789abcdef") (octet % 16) ∷ []

-- `\` as `\\`, a line feed as `\n`, a carriage return as `\r`, a form feed as `\f`, another octet
-- below 32 and 127 as `\x` and two digits
abbrev pub escape : ℕ → List ℕ
escape octet =
    if octet == 92 then codes "\\\\"
    else if octet == 10 then codes "\\n"
    else if octet == 13 then codes "\\r"
    else if octet == 12 then codes "\\f"
    else if nat_lt octet 32 || octet == 127 then codes "\\x" ⊕ two_digits octet
    else octet ∷ []

-- an octet that stands so
abbrev pub escape_as : ℕ → Escape → List ℕ
escape_as octet Plain = octet ∷ []
escape_as octet (Letter letter) = 92 ∷ letter ∷ []
escape_as octet Digits = codes "\\x" ⊕ two_digits octet

unfoldable pub escaped : List ℕ → List ℕ
escaped text = flat_map escape text
