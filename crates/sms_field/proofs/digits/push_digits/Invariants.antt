use Rattle.std.proofs.Common.{◌≡◌, ◌++◌, drop}
use Rattle.std.specs.Str.{chars}
use Rattle.std.specs.String.{string_bytes}
use Rattle.sms_field.specs.Address.DigitText.{text_of_digits}
use Rattle.sms_field.proofs.digits.push_digits.Given as goal

abbrev pub invariant-loop-digit : goal.invariant-loop-digit
invariant-loop-digit l = chars (string_bytes l.text) ++ text_of_digits (drop l.digit-index l.digits) ≡ chars (string_bytes l.fn.text) ++ text_of_digits l.digits
