use Rattle.std.proofs.Common.{arith}
use Rattle.sms_answer.proofs.InLine.{decimal_in_line}
use Rattle.sms_answer.proofs.Standing.{line_stays, before_stays}
use Rattle.sms_answer.proofs.line.Line.put_decimal.Goals as goal

pub returns : goal.returns
returns c = before_stays c.self.inside.from c.self.inside.was_cut _ _ c.put_decimal.ensures c.self.invariant c.self.view_is

pub invariant_of-self : goal.invariant_of-self
invariant_of-self c = line_stays c.self.inside.from c.self.inside.was_cut _ c.put_decimal.ensures (decimal_in_line c.args.number (omega (arith, c.ranges.number))) c.self.invariant
