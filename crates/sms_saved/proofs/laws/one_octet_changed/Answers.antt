use Rattle.sms_saved.proofs.Changed.{before_sum, collision}
use Rattle.sms_saved.proofs.laws.one_octet_changed.Goals as goal

pub returns-clause-before_sum : goal.returns-clause-before_sum
returns-clause-before_sum c = before_sum

pub returns-clause-collision : goal.returns-clause-collision
returns-clause-collision c = collision
