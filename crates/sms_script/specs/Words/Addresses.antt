-- Addresses in a script (3GPP TS 23.040, 9.1.2.5).
use Rattle.std.specs.Prelude.{ℕ, List, ◌∷◌, Bool, true, false, ◌&&◌, nat_lt, Result, Ok, Err}
use Rattle.std.specs.Str.{chars}
use Rattle.sms_field.specs.Address.Text.{address_of_text}
use Rattle.sms_field.specs.Address.Value.{AddressValue}
use Rattle.sms_field.specs.declared.fault.AddressFault.{AddressFault}
use Rattle.sms_field.specs.declared.symbols.Symbols.{Symbols}
use Rattle.sms_field.specs.declared.symbols.Symbols.TheVariants.{Digits}
use Rattle.sms_script.specs.declared.fault.ScriptFault.{ScriptFault}
use Rattle.sms_script.specs.declared.fault.ScriptFault.TheVariants.{BadAddress}

abbrev pub or_bad : Result AddressValue AddressFault → Result AddressValue ScriptFault
or_bad (Ok address) = Ok address
or_bad (Err fault) = Err BadAddress

-- the address of which a word is the text
abbrev pub address : List ℕ → Result AddressValue ScriptFault
address word = or_bad (address_of_text (chars word))

abbrev pub has_digit : Symbols → Bool
has_digit (Digits (digit ∷ more)) = true
has_digit _ = false

-- of type 0, unknown, or 1, international, and with a digit
abbrev pub can_be_phone : AddressValue → Bool
can_be_phone a = nat_lt a.kind 2 && has_digit a.symbols
