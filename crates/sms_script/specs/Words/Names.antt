-- Names of phones.
use Rattle.std.specs.Prelude.{ℕ, List, [], ◌∷◌, length, Bool, false, ◌&&◌, ◌||◌, not, nat_le, codes}
use Rattle.std.specs.Str.{bytes_eq}
use Rattle.std.specs.List.{list_all}
use Rattle.sms_script.specs.Words.Numbers.{is_digit}

-- a to z
abbrev pub is_letter : ℕ → Bool
is_letter c = nat_le 97 c && nat_le c 122

abbrev pub begins_with_letter : List ℕ → Bool
begins_with_letter [] = false
begins_with_letter (c ∷ more) = is_letter c

-- 1 to 16 of a to z and 0 to 9, a letter first, and not `centre`
abbrev pub is_name : List ℕ → Bool
is_name word =
    nat_le (length word) 16 && begins_with_letter word
    && list_all (λ c. is_letter c || is_digit c) word
    && not (bytes_eq word (codes "centre"))
