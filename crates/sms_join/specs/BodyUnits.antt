-- The units of the body of user data (3GPP TS 23.038, 4, 6.2.1 and 6.2.3).
use Rattle.std.specs.Prelude.{Option, Some, None}
use Rattle.sms_text.specs.Utf16.{units_high_first}
use Rattle.sms_field.specs.declared.coding.Alphabet.{Alphabet}
use Rattle.sms_field.specs.declared.coding.Alphabet.TheVariants.{Gsm7, Ucs2 as Ucs2Alphabet}
use Rattle.sms_tpdu.specs.declared.user_data.body.Body.{Body}
use Rattle.sms_tpdu.specs.declared.user_data.body.Body.TheVariants.{Septets, Octets}
use Rattle.sms_join.specs.declared.units.Units.{Units}
use Rattle.sms_join.specs.declared.units.Units.TheVariants.{Gsm, Ucs2}

-- Septets, or the 16-bit units of octets; none where the alphabet is no text's.
abbrev pub units_of_body : Alphabet → Body → Option Units
units_of_body Gsm7 (Septets septets) = Some (Gsm septets)
units_of_body Ucs2Alphabet (Octets octets) = Some (Ucs2 (units_high_first octets))
units_of_body alphabet body = None
