use Rattle.std.proofs.Common.{◌≡◌, ◌-◌, ◌+◌, ◌≤◌, ◌++◌, length, drop}
use Rattle.std.specs.Str.{IsAscii}
use Rattle.sms_field.specs.Address.DigitText.{text_of_digits}
use Rattle.sms_field.specs.Address.Text.{prefix}
use Rattle.sms_told.proofs.telephone.Telephone.seen.Given as goal

abbrev pub invariant-loop-at : goal.invariant-loop-at
invariant-loop-at l =
    (l.at ≤ l.count) × (l.count ≡ length l.digits) × (l.count ≤ 20)
    × (length l.telephone ≤ 1 + l.at) × IsAscii l.telephone
    × (l.telephone ++ text_of_digits (drop l.at l.digits) ≡ prefix l.type_of_number ++ text_of_digits l.digits)

abbrev pub decreases-loop-at : goal.decreases-loop-at
decreases-loop-at l = l.count - l.at
