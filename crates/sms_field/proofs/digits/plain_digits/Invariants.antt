use Rattle.std.proofs.Common.{◌≡◌, drop, take, length}
use Rattle.sms_field.specs.Address.DigitText.{digits_of_text}
use Rattle.sms_field.proofs.DigitTexts.{with_digits}
use Rattle.sms_field.proofs.Rooms.{IsZeroFrom}
use Rattle.sms_field.proofs.digits.plain_digits.Given as goal

abbrev pub invariant-loop-place : goal.invariant-loop-place
invariant-loop-place l = (with_digits (take l.place l.values) (digits_of_text (drop l.place l.octets)) ≡ digits_of_text l.octets) × (length l.values ≡ 20) × IsZeroFrom 20 l.place l.values
