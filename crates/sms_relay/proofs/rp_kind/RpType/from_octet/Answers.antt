use Rattle.std.proofs.Common.{rules}
use Rattle.sms_relay.proofs.rp_kind.RpType.from_octet.Goals as goal

pub returns-in-false-false : goal.returns-in-false-false
returns-in-false-false c = search rules

pub returns-in-false-true : goal.returns-in-false-true
returns-in-false-true c = search rules

pub returns-in-true-false : goal.returns-in-true-false
returns-in-true-false c = search rules

pub returns-in-true-true : goal.returns-in-true-true
returns-in-true-true c = search rules
