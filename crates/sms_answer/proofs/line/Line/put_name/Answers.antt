use Rattle.std.proofs.Common.{List, ℕ, ap, ◌∙◌}
use Rattle.std.specs.List.{list_all}
use Rattle.sms_page.specs.Page.{named}
use Rattle.sms_answer.specs.Text.{is_in_line}
use Rattle.sms_answer.proofs.InLine.{name_in_line}
use Rattle.sms_answer.proofs.Standing.{line_stays, before_stays}
use Rattle.sms_answer.proofs.line.Line.put_name.Goals as goal

pub returns : goal.returns
returns c = before_stays c.self.inside.from c.self.inside.was_cut _ _ c.put_name.ensures c.self.invariant c.self.view_is

pub invariant_of-self : goal.invariant_of-self
invariant_of-self c = line_stays c.self.inside.from c.self.inside.was_cut _ c.put_name.ensures (ap (λ (l : List ℕ). list_all is_in_line (named l)) c.as_bytes.ensures.value ∙ name_in_line c.args.name.now c.requires) c.self.invariant
