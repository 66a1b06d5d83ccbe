use Rattle.sms_answer.proofs.Composed.{Writes-then}
use Rattle.sms_answer.proofs.members.begin.Goals as goal

pub returns-in-Some : goal.returns-in-Some
returns-in-Some c = rw c.in-Some.is (Writes-then _ _ c.open.ensures c.number_named.ensures)
