-- For which lines memory may run out.
use Rattle.std.specs.Prelude.{ℕ, List, ◌∷◌, Result, Ok, Err}
use Rattle.std.specs.Str.{chars}
use Rattle.sms_field.specs.Address.Text.{IsNoNumber}
use Rattle.sms_script.specs.Meaning.{meaning}
use Rattle.sms_script.specs.Meaning.Commands.{command}
use Rattle.sms_script.specs.Meaning.Known.{KnownValue}
use Rattle.sms_script.specs.Words.{words}
use Rattle.sms_script.specs.declared.fault.ScriptFault.{ScriptFault}
use Rattle.sms_script.specs.declared.fault.ScriptFault.TheVariants.{BadAddress}
use Rattle.sms_script.specs.declared.meaning.command.Command.{Command}
use Rattle.sms_script.specs.declared.meaning.command.Command.TheVariants as commands
use Rattle.sms_script.specs.declared.meaning.statement.Statement.{Statement}
use Rattle.sms_script.specs.declared.meaning.statement.Statement.TheVariants as statements

-- after `type` and the name of a phone, an address that is no number
abbrev pub ToName : List (List ℕ) → Type 0
ToName (name ∷ address ∷ text) = IsNoNumber (chars address)
ToName _ = ⊥

-- it is `type`, and what stands after it is to a name
abbrev pub IsTypedToName : Command → List (List ℕ) → Type 0
IsTypedToName commands.Compose rest = ToName rest
IsTypedToName _ rest = ⊥

abbrev pub IsOfName : Result (Command × List (List ℕ)) ScriptFault → Type 0
IsOfName (Ok found) = IsTypedToName found.0 found.1
IsOfName (Err why) = ⊥

-- a line types a text to a name
abbrev pub TypesToName : List ℕ → Type 0
TypesToName line = IsOfName (command (words line))

-- A phone, or an event, takes memory; any other statement takes none. The only fault in whose place
-- want of memory may be told is that of a name: to read one takes memory, to read a number none.
abbrev pub TakesMemory : Type 0 → Result Statement ScriptFault → Type 0
TakesMemory IsName (Ok (statements.Phone phone)) = Unit {0}
TakesMemory IsName (Ok (statements.Event event)) = Unit {0}
TakesMemory IsName (Ok _) = ⊥
TakesMemory IsName (Err BadAddress) = IsName
TakesMemory IsName (Err _) = ⊥

-- memory may run out for a line, after lines that told what is known
abbrev pub MayRunOut : KnownValue → List ℕ → Type 0
MayRunOut known line = TakesMemory (TypesToName line) (meaning known line)
