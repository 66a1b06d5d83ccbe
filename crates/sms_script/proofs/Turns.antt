-- What a script says with one line more.
use Rattle.std.proofs.Common.{◌≡◌, ℕ, List, None, Ok, Err, ap, ◌∙◌}
use Rattle.sms_script.specs.Script.{ScriptValue, with_line, with_line_unless, with_meaning, with_event, after, event_of, line_meaning}
use Rattle.sms_script.specs.Script.Settings.{SettingsValue}
use Rattle.sms_script.specs.declared.fault.ScriptFault.{ScriptFault}
use Rattle.sms_script.specs.declared.meaning.statement.Statement.{Statement}

-- a script with one statement more
abbrev pub with_statement : ScriptValue → SettingsValue → Statement → ScriptValue
with_statement t s statement = record { settings = after s statement; events = with_event t.events (event_of statement); fault = None }

pub with_line-says : (t : ScriptValue) (s : SettingsValue) (line : List ℕ) (statement : Statement) → t.fault ≡ None → t.settings ≡ s → line_meaning s line ≡ Ok statement → with_line t line ≡ with_statement t s statement
unfolding with_line
with_line-says t s line statement e f m =
    ap (with_line_unless t line) e
    ∙ ap (with_meaning t) (ap (λ (x : SettingsValue). line_meaning x line) f ∙ m)
    ∙ ap (λ (x : SettingsValue). with_statement t x statement) f

-- a script whose next line is at fault
abbrev pub with_fault : ScriptValue → ScriptFault → ScriptValue
with_fault t why = with_meaning t (Err why)

pub with_line-fails : (t : ScriptValue) (s : SettingsValue) (line : List ℕ) (why : ScriptFault) → t.fault ≡ None → t.settings ≡ s → line_meaning s line ≡ Err why → with_line t line ≡ with_fault t why
unfolding with_line
with_line-fails t s line why e f m = ap (with_line_unless t line) e ∙ ap (with_meaning t) (ap (λ (x : SettingsValue). line_meaning x line) f ∙ m)
