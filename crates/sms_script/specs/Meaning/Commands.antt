-- The first words of lines.
use Rattle.std.specs.Prelude.{ℕ, List, [], ◌∷◌, Bool, true, false, Result, Ok, Err, codes, if◌then◌else◌}
use Rattle.std.specs.Str.{bytes_eq}
use Rattle.sms_script.specs.declared.fault.ScriptFault.{ScriptFault}
use Rattle.sms_script.specs.declared.fault.ScriptFault.TheVariants.{UnknownCommand}
use Rattle.sms_script.specs.declared.meaning.command.Command.{Command}
use Rattle.sms_script.specs.declared.meaning.command.Command.TheVariants.{Held, Open, Remembered, Store, Clock, Brief, Wide, Reject, Phone, Compose, Carry, Timeout, Push, Tick, Inject}

-- `inject up`, to the centre, or `inject down`, to the phone
abbrev pub direction : List (List ℕ) → Result (Command × List (List ℕ)) ScriptFault
direction [] = Err UnknownCommand
direction (word ∷ more) =
    if bytes_eq word (codes "up") then Ok (Inject true, more)
    else if bytes_eq word (codes "down") then Ok (Inject false, more)
    else Err UnknownCommand

-- the command of a line, and the words after it
abbrev pub command : List (List ℕ) → Result (Command × List (List ℕ)) ScriptFault
command [] = Err UnknownCommand
command (word ∷ more) =
    if bytes_eq word (codes "held") then Ok (Held, more)
    else if bytes_eq word (codes "open") then Ok (Open, more)
    else if bytes_eq word (codes "remembered") then Ok (Remembered, more)
    else if bytes_eq word (codes "store") then Ok (Store, more)
    else if bytes_eq word (codes "clock") then Ok (Clock, more)
    else if bytes_eq word (codes "brief") then Ok (Brief, more)
    else if bytes_eq word (codes "wide") then Ok (Wide, more)
    else if bytes_eq word (codes "reject") then Ok (Reject, more)
    else if bytes_eq word (codes "phone") then Ok (Phone, more)
    else if bytes_eq word (codes "type") then Ok (Compose, more)
    else if bytes_eq word (codes "carry") then Ok (Carry, more)
    else if bytes_eq word (codes "timeout") then Ok (Timeout, more)
    else if bytes_eq word (codes "push") then Ok (Push, more)
    else if bytes_eq word (codes "tick") then Ok (Tick, more)
    else if bytes_eq word (codes "inject") then direction more
    else Err UnknownCommand

-- settings and phones stand before the first event
abbrev pub is_setting : Command → Bool
is_setting Compose = false
is_setting Carry = false
is_setting Timeout = false
is_setting Push = false
is_setting Tick = false
is_setting (Inject up) = false
is_setting _ = true
