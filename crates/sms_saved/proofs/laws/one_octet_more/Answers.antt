use Rattle.sms_saved.proofs.Changed.{more_before_sum, more_collision}
use Rattle.sms_saved.proofs.laws.one_octet_more.Goals as goal

pub returns-clause-before_sum : goal.returns-clause-before_sum
returns-clause-before_sum c = more_before_sum

pub returns-clause-collision : goal.returns-clause-collision
returns-clause-collision c = more_collision
