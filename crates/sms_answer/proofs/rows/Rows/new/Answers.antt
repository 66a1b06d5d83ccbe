use Rattle.sms_answer.proofs.RowLemmas.{new_rows, new_rows_value}
use Rattle.sms_answer.proofs.rows.Rows.new.Goals as goal

pub returns : goal.returns
returns c = rw (c.count-base.ensures, c.new.ensures) (new_rows_value c.args.page c.args.number)

pub invariant_of-result : goal.invariant_of-result
invariant_of-result c = rw (c.count-base.ensures, c.new.ensures) (new_rows c.args.page)
