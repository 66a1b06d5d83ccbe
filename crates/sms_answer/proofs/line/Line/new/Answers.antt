use Rattle.sms_answer.proofs.Standing.{new_line, new_line_is}
use Rattle.sms_answer.proofs.line.Line.new.Goals as goal

pub returns : goal.returns
returns c = rw (c.count-from.ensures, c.is_cut-was_cut.ensures) (new_line_is c.args.page)

pub invariant_of-result : goal.invariant_of-result
invariant_of-result c = rw (c.count-from.ensures, c.is_cut-was_cut.ensures) (new_line c.args.page)
