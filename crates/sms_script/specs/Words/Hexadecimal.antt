-- Octets in a script.
use Rattle.std.specs.Prelude.{ℕ, List, [], Result, Ok, Err, codes, if◌then◌else◌}
use Rattle.std.specs.Str.{bytes_eq}
use Rattle.hex.specs.Hex.{decode_of}
use Rattle.hex.specs.declared.error.FromHexError.{FromHexError}
use Rattle.sms_script.specs.declared.fault.ScriptFault.{ScriptFault}
use Rattle.sms_script.specs.declared.fault.ScriptFault.TheVariants.{BadHex}

abbrev pub or_bad : Result (List ℕ) FromHexError → Result (List ℕ) ScriptFault
or_bad (Ok octets) = Ok octets
or_bad (Err fault) = Err BadHex

-- two digits of either case for each octet; no octets are `-`, or the empty word
abbrev pub hexadecimal : List ℕ → Result (List ℕ) ScriptFault
hexadecimal word = if bytes_eq word (codes "-") then Ok [] else or_bad (decode_of word)
