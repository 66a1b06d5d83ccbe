-- What is written of units that are shown.
use Rattle.std.specs.Prelude.{◌≡◌, ℕ, Bool, false, true, List, Option, None, Some, MatchBool}
use Rattle.std.specs.Io.KnownBytes.{Appends}
use Rattle.sms_script.specs.Lines.{lines}
use Rattle.sms_told.specs.declared.form.Form.{Form}
use Rattle.sms_answer.specs.Answer.{IsAnswer}
use Rattle.sms_show.specs.Showing.{TellsLines}

-- One answer is written.
pub record WritesAnswer (form : Form) (written written_then : Option (List ℕ)) : Type 0 where
  pub answer : List ℕ
  pub is_answer : IsAnswer form None answer
  pub written_so : Appends written written_then answer

-- One answer is written for each of these lines that has a unit or is too long.
pub record WritesLines (form : Form) (octets : List ℕ) (written written_then : Option (List ℕ))
    : Type 0 where
  pub text : List ℕ
  pub tells : TellsLines form false 0 (lines octets) text
  pub written_so : Appends written written_then text

-- Of units that are shown, the octets of each line of the input or those of a word, the answers are
-- written.
abbrev pub WritesShown : (form : Form) → (has_lines : Bool) → (input : Option (List ℕ))
    → (written written_then : Option (List ℕ)) → Type 0
WritesShown form has_lines input written written_then =
    MatchBool has_lines
    ((octets : List ℕ) → input ≡ Some octets → WritesLines form octets written written_then)
    (WritesAnswer form written written_then)
