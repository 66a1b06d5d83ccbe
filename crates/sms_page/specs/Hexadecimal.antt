-- Octets of hexadecimal digits.
use Rattle.std.specs.Prelude.{◌≡◌, ℕ, ◌+◌, ◌*◌, ◌==◌, ◌||◌, ◌&&◌, Bool, if◌then◌else◌, List, [], ◌∷◌, length, take, unwrap_or, Option, Some, None, Result, Ok, Err, MatchResult}
use Rattle.hex.specs.Hex.{hex_digit_value, is_hex_digit}

-- the number of a digit of either case
abbrev pub number_of : ℕ → ℕ
number_of digit = unwrap_or (hex_digit_value digit) 0

-- a blank or a tab
abbrev pub is_blank : ℕ → Bool
is_blank octet = (octet == 32) || (octet == 9)

-- an octet in front of what is read behind it
abbrev pub in_front : ℕ → Result (List ℕ) ℕ → Result (List ℕ) ℕ
in_front octet (Ok octets) = Ok (octet ∷ octets)
in_front octet (Err place) = Err place

-- the octets of digits from a place on, behind the number of a high digit or none, or the place of
-- the first octet that is wrong; blanks may stand between octets
unfoldable pub octets_from : Bool → Option ℕ → ℕ → List ℕ → Result (List ℕ) ℕ
octets_from has_blanks None at [] = Ok []
octets_from has_blanks (Some high) at [] = Err at
octets_from has_blanks None at (x ∷ digits) =
    if is_hex_digit x then octets_from has_blanks (Some (number_of x)) (at + 1) digits
    else if has_blanks && is_blank x then octets_from has_blanks None (at + 1) digits
    else Err at
octets_from has_blanks (Some high) at (x ∷ digits) =
    if is_hex_digit x then
    in_front (high * 16 + number_of x) (octets_from has_blanks None (at + 1) digits)
    else Err at

-- the octets of digits, or the place of the first octet that is wrong
abbrev pub octets_of : Bool → List ℕ → Result (List ℕ) ℕ
octets_of has_blanks digits = octets_from has_blanks None 0 digits

-- the answer is how many octets were read, which stand in front, or the place
abbrev pub Reads : Result (List ℕ) ℕ → Result ℕ ℕ → List ℕ → Type 0
Reads read answer room =
    MatchResult read
    (λ octets. (answer ≡ Ok (length octets)) × (take (length octets) room ≡ octets))
    (λ place. answer ≡ Err place)
