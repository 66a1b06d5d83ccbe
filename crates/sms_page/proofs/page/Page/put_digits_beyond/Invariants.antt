use Rattle.std.proofs.Common.{◌-◌, ◌≤◌, length, take}
use Rattle.hex.specs.Hex.{encode_upper}
use Rattle.sms_page.specs.Page.{Puts}
use Rattle.sms_page.proofs.page.Page.put_digits_beyond.Given as goal

abbrev pub invariant-loop-at : goal.invariant-loop-at
invariant-loop-at l = (l.at ≤ length l.octets) × Puts l.fn.self l.self (encode_upper (take l.at l.octets))

abbrev pub decreases-loop-at : goal.decreases-loop-at
decreases-loop-at l = length l.octets - l.at
