use Rattle.sms_answer.proofs.RowLemmas.{rows_end}
use Rattle.sms_answer.proofs.rows.Rows.finish.Goals as goal

pub returns : goal.returns
returns c = rows_end c.self.inside.base c.self.inside.number _ c.into_page.ensures c.self.invariant c.self.view_is
