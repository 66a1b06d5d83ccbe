use Rattle.std.proofs.Common.{◌≡◌, ◌-◌, ◌+◌, ◌≤◌, ◌++◌, length, drop}
use Rattle.std.specs.Str.{IsAscii}
use Rattle.sms_field.specs.Address.DigitText.{text_of_digits}
use Rattle.sms_field.specs.Address.Text.{prefix}
use Rattle.sms_told.proofs.telephone.Telephone.of.Given as goal

abbrev pub invariant-loop-at : goal.invariant-loop-at
invariant-loop-at l =
    (l.at ≤ length l.digits) × (length l.telephone ≤ 1 + l.at) × IsAscii l.telephone
    × (l.telephone ++ text_of_digits (drop l.at l.digits) ≡ prefix l.type_of_number ++ text_of_digits l.digits)

abbrev pub decreases-loop-at : goal.decreases-loop-at
decreases-loop-at l = length l.digits - l.at
