-- Digits in pairs, with nothing between them.
use Rattle.std.specs.Prelude.{◌≡◌, ℕ, ◌+◌, ◌*◌, true, List, [], ◌∷◌}
use Rattle.std.specs.List.{list_all}
use Rattle.hex.specs.Hex.{is_hex_digit}
use Rattle.sms_page.specs.Hexadecimal.{number_of}

-- the octets of digits in pairs
unfoldable pub octets_of_pairs : List ℕ → List ℕ
octets_of_pairs [] = []
octets_of_pairs (high ∷ []) = []
octets_of_pairs (high ∷ low ∷ digits) = (number_of high * 16 + number_of low) ∷ octets_of_pairs digits

-- all are digits, and these are their octets
abbrev pub HaveOctets : List ℕ → List ℕ → Type 0
HaveOctets digits octets = (list_all is_hex_digit digits ≡ true) × (octets ≡ octets_of_pairs digits)
