-- The address that a text of C says.
use Rattle.std.specs.Prelude.{ℕ, List, Result, Ok, Err, if◌then◌else◌}
use Rattle.std.specs.Str.{chars, is_utf8}
use Rattle.sms_field.specs.Address.Text.{address_of_text}
use Rattle.sms_field.specs.Address.Value.{AddressValue}
use Rattle.sms_field.specs.declared.fault.AddressFault.{AddressFault}
use Rattle.sms_c.specs.declared.status.Failure.{Failure}
use Rattle.sms_c.specs.declared.status.Failure.TheVariants.{BadAddress, NotUtf8}

abbrev pub address_or : Result AddressValue AddressFault → Result AddressValue Failure
address_or (Ok address) = Ok address
address_or (Err _) = Err BadAddress

-- a text that spells no character, or no address, says why
abbrev pub address_given : List ℕ → Result AddressValue Failure
address_given text = if is_utf8 text then address_or (address_of_text (chars text)) else Err NotUtf8
