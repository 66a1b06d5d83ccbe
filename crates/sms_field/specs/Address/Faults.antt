-- Why octets or characters are no address.
use Rattle.std.specs.Prelude.{◌≡◌, Result, Ok, Err}
use Rattle.sms_field.specs.declared.fault.AddressFault.{AddressFault}
use Rattle.sms_field.specs.declared.fault.AddressFault.TheVariants.{AddressTooLong, BadDigit}
use Rattle.sms_field.specs.declared.fault.FieldFault.{FieldFault}
use Rattle.sms_field.specs.declared.fault.FieldFault.TheVariants as field
use Rattle.sms_field.specs.declared.fault.TextFault.{TextFault}
use Rattle.sms_field.specs.declared.fault.TextFault.TheVariants as text

-- of a field: its address is too long
abbrev pub too_long : FieldFault
too_long = field.Address AddressTooLong

-- of a field: a half of an octet of its address is no digit
abbrev pub bad_digit : FieldFault
bad_digit = field.Address BadDigit

-- what was answered is what the text says, unless memory ran out
abbrev pub Gives : {A : Type 0} → Result A TextFault → Result A AddressFault → Type 0
Gives (Ok x) said = said ≡ Ok x
Gives (Err (text.Address why)) said = said ≡ Err why
Gives (Err text.Memory) said = Unit {0}
