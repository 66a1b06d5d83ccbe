-- Characters of telephone numbers, which are ASCII.
use Rattle.std.proofs.Common.{◌≡◌, ℕ, zero, suc, ◌+◌, ◌<◌, ◌≤◌, Bool, true, false, ◌==◌, if◌then◌else◌, List, [], ◌∷◌, ◌++◌, length, drop, ap, sym, ◌∙◌, arith, append_assoc}
use Rattle.std.specs.Prelude.{slice_index}
use Rattle.std.specs.Str.{IsAscii}
use Rattle.std.proofs.lemmas.List.{drop_more}
use Rattle.sms_field.specs.Address.DigitText.{character_of_digit, text_of_digits}
use Rattle.sms_field.specs.Address.Text.{plus, prefix}

pub ascii_more : (xs : List ℕ) (c : ℕ) → IsAscii xs → c < 128 → IsAscii (xs ++ c ∷ [])
ascii_more [] c are is zero = is
ascii_more [] c are is (suc i) = omega arith
ascii_more (x ∷ xs) c are is zero = are zero
ascii_more (x ∷ xs) c are is (suc i) = ascii_more xs c (λ j. are (suc j)) is i

ascii_if : (b : Bool) → IsAscii (if b then plus ∷ [] else [])
ascii_if true = ascii_more [] plus (λ i. omega arith) (omega arith)
ascii_if false = λ i. omega arith

short_if : (b : Bool) → length (if b then plus ∷ [] else []) ≤ 1
short_if true = omega arith
short_if false = omega arith

-- what stands before the digits
pub prefix_ascii : (kind : ℕ) → IsAscii (prefix kind)
prefix_ascii kind = ascii_if (kind == 1)

pub prefix_short : (kind : ℕ) → length (prefix kind) ≤ 1
prefix_short kind = short_if (kind == 1)

-- one more digit is told
pub digit_more : (told digits whole : List ℕ) (at c : ℕ) → at < length digits → c ≡ character_of_digit (slice_index digits at)
    → told ++ text_of_digits (drop at digits) ≡ whole → (told ++ c ∷ []) ++ text_of_digits (drop (at + 1) digits) ≡ whole
digit_more told digits whole at c within is kept =
    let rest = text_of_digits (drop (at + 1) digits) in
    append_assoc told (c ∷ []) rest ∙ ap (λ (x : ℕ). told ++ x ∷ rest) is
    ∙ ap (λ (ds : List ℕ). told ++ text_of_digits ds) (sym (drop_more digits at 0 within)) ∙ kept
