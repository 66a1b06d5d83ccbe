use Rattle.sms_answer.proofs.RowLemmas.{rows_grow}
use Rattle.sms_answer.proofs.rows.Rows.put_reason.Goals as goal

pub invariant_of-self : goal.invariant_of-self
invariant_of-self g c = rows_grow c.self.inside.base (rw (c.put_words.ensures) at c.end.ensures) c.self.invariant
