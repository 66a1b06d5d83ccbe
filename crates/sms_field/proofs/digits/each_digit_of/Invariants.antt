use Rattle.std.proofs.Common.{◌≡◌, List, ℕ, length, drop}
use Rattle.std.specs.Str.{chars}
use Rattle.sms_field.specs.Address.DigitText.{digits_of_text}
use Rattle.sms_field.proofs.DigitTexts.{with_digits, AreKept}
use Rattle.sms_field.proofs.digits.each_digit_of.Given as goal

abbrev pub invariant-loop-c : goal.invariant-loop-c
invariant-loop-c l = (read : List ℕ) × (with_digits read (digits_of_text (drop (length l.yielded) (chars l.text))) ≡ digits_of_text (chars l.text)) × AreKept l.is_long read l.digits.items
