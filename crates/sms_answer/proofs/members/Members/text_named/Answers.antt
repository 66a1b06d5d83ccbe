use Rattle.std.proofs.Common.{false}
use Rattle.sms_page.specs.Escapes.{escaped, json}
use Rattle.sms_answer.proofs.InLine.{quoted_in_line, json_in_line}
use Rattle.sms_answer.proofs.ObjectLemmas.{object_stays, value_stays}
use Rattle.sms_answer.proofs.members.Members.text_named.Goals as goal

pub returns : goal.returns
returns c = value_stays c.self.inside.base c.self.inside.was_cut c.self.inside.number _ _ c.text_named.ensures c.self.invariant c.self.view_is

pub invariant_of-self : goal.invariant_of-self
invariant_of-self c = object_stays c.self.inside.base c.self.inside.was_cut c.self.inside.number _ _ c.text_named.ensures (quoted_in_line false (escaped json c.args.text.now) false (json_in_line c.args.text.now), tt) c.self.invariant
