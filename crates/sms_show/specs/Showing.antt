-- What is told of lines that are shown, one after another.
use Rattle.std.specs.Prelude.{◌≡◌, ◌⊎◌, ℕ, Bool, true, false, not, ◌||◌, List, [], ◌∷◌, ◌++◌, Option, None, Some, ⊤}
use Rattle.std.specs.Str.{IsTrimAscii}
use Rattle.sms_page.specs.Page.{PageValue, maybe}
use Rattle.sms_told.specs.declared.form.Form.{Form}
use Rattle.sms_told.specs.declared.form.Form.TheVariants.{Plain, Json}
use Rattle.sms_feed.specs.Lines.{few, next_number}
use Rattle.sms_feed.specs.Units.{is_nothing}
use Rattle.sms_answer.specs.Answer.{IsAnswer}

pub record ShowingValue : Type 0 where
  -- how answers are written
  pub form : Form
  -- whether something was shown
  pub has_begun : Bool

-- an empty line, which parts an answer in lines from what was shown before: a line feed
abbrev pub gap : Form → Bool → List ℕ
gap Plain has_begun = maybe has_begun 10
gap Json has_begun = []

-- This is told of the line of this number: its answer, behind a gap where one is due.
pub record TellsLine (form : Form) (has_begun : Bool) (number : ℕ) (told : List ℕ) : Type 0 where
  pub answer : List ℕ
  pub is_answer : IsAnswer form (Some number) answer
  pub whole : told ≡ gap form has_begun ++ answer

-- What is told of the line of this number comes to the page, behind what stands there, or the front
-- of it where memory runs out. Something was shown then, unless memory ran out.
pub record ShowsLine (old : ShowingValue) (number : ℕ) (page : PageValue) (new : ShowingValue)
    (page_then : PageValue) : Type 0 where
  pub told : List ℕ
  pub behind : page_then.octets ≡ page.octets ++ told
  pub cut : page.is_cut ≡ true → page_then.is_cut ≡ true
  pub whole : page_then.is_cut ≡ false → TellsLine old.form old.has_begun number told
  pub form : new.form ≡ old.form
  pub has_begun : new.has_begun ≡ (old.has_begun || not page_then.is_cut)

-- Without the blanks around it the line has no unit. None is a line that is too long.
abbrev pub HasNoUnit : Option (List ℕ) → Type 0
HasNoUnit None = ⊥
HasNoUnit (Some line) = (unit : List ℕ) × IsTrimAscii line unit × (is_nothing unit ≡ true)

abbrev pub HasUnit : Option (List ℕ) → Type 0
HasUnit None = ⊤
HasUnit (Some line) = (unit : List ℕ) × IsTrimAscii line unit × (is_nothing unit ≡ false)

-- The text has one answer for each of these lines that has a unit or is too long, in order and with
-- the number of the line, and nothing else but the gaps between answers.
abbrev pub TellsLines : Form → Bool → ℕ → List (List ℕ) → List ℕ → Type 0
TellsLines form has_begun n [] text = text ≡ []
TellsLines form has_begun n (line ∷ lines) text =
    (HasNoUnit (few line) × TellsLines form has_begun (next_number n) lines text)
    ⊎ (HasUnit (few line) × ((told rest : List ℕ) × (text ≡ told ++ rest)
    × TellsLine form has_begun (next_number n) told
    × TellsLines form true (next_number n) lines rest))
