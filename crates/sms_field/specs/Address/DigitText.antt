-- Digits as they are shown (3GPP TS 23.040, 9.1.2.3).
use Rattle.std.specs.Prelude.{ℕ, ◌<◌, ◌≤◌, List, [], ◌∷◌, Option, Some, None, slice_index, map, position, ◌==◌}

-- the characters of the digits 0 to 14: 0 to 9, *, #, a, b, c
abbrev pub digit_characters : List ℕ
digit_characters = 48 ∷ 49 ∷ 50 ∷ 51 ∷ 52 ∷ 53 ∷ 54 ∷ 55 ∷ 56 ∷ 57 ∷ 42 ∷ 35 ∷ 97 ∷ 98 ∷ 99 ∷ []

-- one of the characters 0 to 9
abbrev pub IsPlain : ℕ → Type 0
IsPlain c = (48 ≤ c) × (c < 58)

unfoldable pub character_of_digit : ℕ → ℕ
character_of_digit digit = slice_index digit_characters digit

-- the digit whose character this is
unfoldable pub digit_of_character : ℕ → Option ℕ
digit_of_character c = position (λ known. known == c) digit_characters

abbrev pub text_of_digits : List ℕ → List ℕ
text_of_digits digits = map character_of_digit digits

abbrev pub and_digits : Option ℕ → Option (List ℕ) → Option (List ℕ)
and_digits (Some digit) (Some others) = Some (digit ∷ others)
and_digits _ _ = None

-- the digits of a text, where each of its characters is one
unfoldable pub digits_of_text : List ℕ → Option (List ℕ)
digits_of_text [] = Some []
digits_of_text (c ∷ text) = and_digits (digit_of_character c) (digits_of_text text)
