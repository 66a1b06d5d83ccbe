use Rattle.std.proofs.Common.{ap, ◌∙◌}
use Rattle.std.specs.List.{list_all}
use Rattle.sms_answer.specs.Text.{is_in_line}
use Rattle.sms_answer.proofs.InLine.{plain_in_line}
use Rattle.sms_answer.proofs.Standing.{line_stays, before_stays}
use Rattle.sms_answer.proofs.line.Line.put_word.Goals as goal

pub returns : goal.returns
returns c = before_stays c.self.inside.from c.self.inside.was_cut _ _ c.put.ensures c.self.invariant c.self.view_is

pub invariant_of-self : goal.invariant_of-self
invariant_of-self c = line_stays c.self.inside.from c.self.inside.was_cut _ c.put.ensures (ap (list_all is_in_line) c.as_bytes.ensures.value ∙ plain_in_line c.args.word.now c.requires) c.self.invariant
