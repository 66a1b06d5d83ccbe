-- What the lines of a script say together.
pub mod Limits
pub mod Settings
use Rattle.std.specs.Prelude.{◌≡◌, ℕ, ◌+◌, List, [], ◌∷◌, ◌++◌, length, nat_lt, nat_le, true, false, Option, Some, None, Result, Ok, Err}
use Rattle.sms_script.specs.Lines.{line_limit}
use Rattle.sms_script.specs.Meaning.{meaning}
use Rattle.sms_script.specs.Meaning.Known.{no_phones, with_phone, running}
use Rattle.sms_script.specs.Meaning.Memory.{MayRunOut}
use Rattle.sms_script.specs.Reasons.{◌>>◌, demand}
use Rattle.sms_script.specs.Script.Limits.{default_limits, with_limit}
use Rattle.sms_script.specs.Script.Settings.{SettingsValue}
use Rattle.sms_script.specs.declared.fault.PlayFault.{PlayFault}
use Rattle.sms_script.specs.declared.fault.PlayFault.TheVariants as faults
use Rattle.sms_script.specs.declared.fault.ScriptFault.{ScriptFault}
use Rattle.sms_script.specs.declared.fault.ScriptFault.TheVariants.{TooManyLines, LineTooLong}
use Rattle.sms_script.specs.declared.meaning.event.Event.{Event}
use Rattle.sms_script.specs.declared.meaning.statement.Statement.{Statement}
use Rattle.sms_script.specs.declared.meaning.statement.Statement.TheVariants as statements

-- how many lines there may be
abbrev pub lines_limit : ℕ
lines_limit = 100000

-- before the first line
abbrev pub before_all : SettingsValue
before_all =
    record { known = no_phones; limits = default_limits; clock = None; is_brief = false; lines = 0 }

-- what a line sets; of a setting given twice the last counts
unfoldable pub after : SettingsValue → Statement → SettingsValue
after s statements.Nothing = record s { lines = s.lines + 1 }
after s (statements.Limit which n) =
    record s { limits = with_limit s.limits which n; lines = s.lines + 1 }
after s (statements.Clock n) = record s { clock = Some n; lines = s.lines + 1 }
after s statements.Brief = record s { is_brief = true; lines = s.lines + 1 }
after s statements.Wide =
    record s { limits = record (s.limits) { wide = true }; lines = s.lines + 1 }
after s statements.Reject =
    record s { limits = record (s.limits) { reject = true }; lines = s.lines + 1 }
after s (statements.Phone phone) =
    record s { known = with_phone s.known phone; lines = s.lines + 1 }
after s (statements.Event event) = record s { known = running s.known; lines = s.lines + 1 }

-- the event that a line is
abbrev pub event_of : Statement → Option Event
event_of (statements.Event event) = Some event
event_of _ = None

-- what the next line says, or the first reason that applies
abbrev pub line_meaning : SettingsValue → List ℕ → Result Statement ScriptFault
line_meaning s line = do
  demand (nat_lt s.lines lines_limit) TooManyLines
  demand (nat_le (length line) line_limit) LineTooLong
  meaning s.known line

-- A script: what its lines set, its events in order, and the line at fault with its reason. After
-- that line nothing counts.
pub record ScriptValue : Type 0 where
  pub settings : SettingsValue
  pub events : List Event
  pub fault : Option (ℕ × ScriptFault)

abbrev pub no_lines : ScriptValue
no_lines = record { settings = before_all; events = []; fault = None }

abbrev pub with_event : List Event → Option Event → List Event
with_event events None = events
with_event events (Some event) = events ++ event ∷ []

abbrev pub with_meaning : ScriptValue → Result Statement ScriptFault → ScriptValue
with_meaning s (Ok statement) =
    record {
      settings = after s.settings statement;
      events = with_event s.events (event_of statement);
      fault = None;
    }
with_meaning s (Err why) =
    record { settings = s.settings; events = s.events; fault = Some (s.settings.lines + 1, why) }

abbrev pub with_line_unless : ScriptValue → List ℕ → Option (ℕ × ScriptFault) → ScriptValue
with_line_unless s line None = with_meaning s (line_meaning s.settings line)
with_line_unless s line (Some fault) = s

-- one line more
unfoldable pub with_line : ScriptValue → List ℕ → ScriptValue
with_line s line = with_line_unless s line s.fault

abbrev pub with_lines : ScriptValue → List (List ℕ) → ScriptValue
with_lines s [] = s
with_lines s (line ∷ more) = with_lines (with_line s line) more

-- what lines say together
abbrev pub script_of : List (List ℕ) → ScriptValue
script_of lines = with_lines no_lines lines

-- a line was taken: its event was answered; or it was not, and all is as it was, for the reason why
-- it says nothing, or for want of memory, where memory may run out for it
abbrev pub TakesLine : SettingsValue → SettingsValue → List ℕ → Result (Option Event) PlayFault
    → Type 0
TakesLine old new line (Ok event) =
    (statement : Statement) × (meaning old.known line ≡ Ok statement) × (new ≡ after old statement)
    × (event ≡ event_of statement)
TakesLine old new line (Err (faults.Script n why)) =
    (meaning old.known line ≡ Err why) × (n ≡ old.lines + 1) × (new ≡ old)
TakesLine old new line (Err faults.Memory) = (new ≡ old) × MayRunOut old.known line
TakesLine old new line (Err _) = ⊥
