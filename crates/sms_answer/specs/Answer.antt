-- Answers of members, in lines or as one line of JSON, behind what stood on a page.
use Rattle.std.specs.Prelude.{◌≡◌, ℕ, Bool, true, false, ◌&&◌, nat_le, List, [], ◌∷◌, ◌++◌, Option, Some, None, codes, decimal, ⊤}
use Rattle.sms_page.specs.Page.{PageValue}
use Rattle.sms_told.specs.declared.form.Form.{Form}
use Rattle.sms_told.specs.declared.form.Form.TheVariants.{Plain, Json}
use Rattle.sms_answer.specs.Text.{IsInLine, AreWholeLines, ended}

-- An answer that is being written.
pub record AnswerValue : Type 0 where
  -- the page before it
  pub front : PageValue
  pub form : Form
  -- the number of the line of input that it answers, where that is told
  pub number : Option ℕ

-- what an object begins with: its first member tells the number, where that is told
abbrev pub begun : Option ℕ → List ℕ
begun None = codes "{"
begun (Some number) = codes "{\"line\":" ++ decimal number

abbrev pub is_digit : ℕ → Bool
is_digit octet = nat_le 48 octet && nat_le octet 57

-- no digit comes first, so that a number before it ends there
abbrev pub IsApart : List ℕ → Type 0
IsApart [] = ⊤
IsApart (octet ∷ octets) = is_digit octet ≡ false

-- a number ends where it is told, and no number is told else
abbrev pub EndsNumber : Option ℕ → List ℕ → Type 0
EndsNumber None rest = ⊤
EndsNumber (Some number) rest = IsApart rest

-- one line, which begins as an object does, with the number where that is told
pub record IsObjectLine (number : Option ℕ) (octets : List ℕ) : Type 0 where
  pub rest : List ℕ
  pub in_line : IsInLine rest
  pub apart : EndsNumber number rest
  pub one_line : octets ≡ ended (begun number ++ rest)

-- an answer: whole lines, or in JSON one line
abbrev pub IsAnswer : Form → Option ℕ → List ℕ → Type 0
IsAnswer Plain number octets = AreWholeLines octets
IsAnswer Json number octets = IsObjectLine number octets

-- The answer ends: it stands on the page behind what stood there before, whole unless the page
-- is cut. A page that was cut before stays cut.
pub record Ends (answer : AnswerValue) (page : PageValue) : Type 0 where
  pub added : List ℕ
  pub behind : page.octets ≡ answer.front.octets ++ added
  pub whole : page.is_cut ≡ false → IsAnswer answer.form answer.number added
  pub cut : answer.front.is_cut ≡ true → page.is_cut ≡ true
