use Rattle.std.proofs.Common.{◌∙◌}
use Rattle.sms_answer.proofs.RowLemmas.{rows_grow, rows_stay}
use Rattle.sms_answer.proofs.rows.Rows.put.Goals as goal

pub returns : goal.returns
returns g c = rows_stay c.self.inside.base c.self.inside.number (rw (c.plain.ensures, c.put_name.ensures) at c.end.ensures) c.self.invariant ∙ c.self.view_is

pub invariant_of-self : goal.invariant_of-self
invariant_of-self g c = rows_grow c.self.inside.base (rw (c.plain.ensures, c.put_name.ensures) at c.end.ensures) c.self.invariant
