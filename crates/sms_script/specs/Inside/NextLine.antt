-- A reader may pass this by: contracts of private functions, and proofs, alone cite it.
--
-- What reading the next line of a script takes from a source.
use Rattle.std.specs.Prelude.{◌≡◌, ◌≢◌, ℕ, ◌+◌, ◌<◌, ◌≤◌, List, [], ◌∷◌, length, Option, Result, Ok, Err}
use Rattle.std.specs.Io.KnownBytes.{Consumes, IsAtEnd}
use Rattle.sms_script.specs.Lines.{line_limit, HasNoLineFeed}
use Rattle.sms_script.specs.Lines.Reading.{ReadsLine, ShowsLonger}
use Rattle.sms_script.specs.declared.lines.LineEnd.TheVariants as line_ends
use Rattle.sms_script.specs.Script.{lines_limit}
use Rattle.sms_script.specs.declared.fault.PlayFault.{PlayFault}
use Rattle.sms_script.specs.declared.playing.next_line.Next.{Next}
use Rattle.sms_script.specs.declared.playing.next_line.Next.TheVariants as nexts
use Rattle.sms_script.specs.declared.fault.PlayFault.TheVariants as faults
use Rattle.sms_script.specs.declared.fault.ScriptFault.{ScriptFault}
use Rattle.sms_script.specs.declared.fault.ScriptFault.TheVariants as reasons

-- Of a line too many the first octet is read; of a line that is too long no octet after the one
-- that shows it.
abbrev pub TakesWrong : Option (List ℕ) → Option (List ℕ) → ℕ → ScriptFault → Type 0
TakesWrong old new count reasons.TooManyLines =
    (count ≡ lines_limit) × (octet : ℕ) × Consumes old new (octet ∷ [])
TakesWrong old new count reasons.LineTooLong =
    (count < lines_limit) × (raw : List ℕ) × HasNoLineFeed raw × Consumes old new raw
    × ShowsLonger raw new × (length raw ≤ line_limit + 2)
TakesWrong old new count _ = ⊥

-- after as many lines, a source with old left was read for one more, and has new left; the last
-- line has octets
abbrev pub TakesNext : Option (List ℕ) → Option (List ℕ) → ℕ → List ℕ → Result Next PlayFault
    → Type 0
TakesNext old new count line (Ok nexts.Line) =
    (count < lines_limit) × ReadsLine old new line (Ok line_ends.LineFeed)
TakesNext old new count line (Ok nexts.Last) =
    (count < lines_limit) × (line ≢ []) × ReadsLine old new line (Ok line_ends.EndOfSource)
TakesNext old new count line (Ok nexts.End) = Consumes old new [] × IsAtEnd new
TakesNext old new count line (Err (faults.Script n why)) =
    (n ≡ count + 1) × TakesWrong old new count why
TakesNext old new count line (Err faults.Read) =
    (raw : List ℕ) × HasNoLineFeed raw × Consumes old new raw × (length raw ≤ line_limit + 1)
TakesNext old new count line (Err faults.Memory) = Consumes old new []
TakesNext old new count line (Err faults.Write) = ⊥
