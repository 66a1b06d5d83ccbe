use Rattle.std.proofs.Common.{true, false, List, ℕ, ap, refl, ◌∙◌}
use Rattle.sms_page.specs.Page.{quoted}
use Rattle.sms_page.specs.Escapes.{escaped, json}
use Rattle.sms_page.specs.Object.{name}
use Rattle.sms_page.proofs.PageLemmas.{Puts-same}
use Rattle.sms_page.proofs.ObjectLemmas.{Writes-token, and_true, quoted_is, plain_name}
use Rattle.sms_page.proofs.object.Object.name.Goals as goal

pub returns : goal.returns
returns c = Writes-token c.args.self.now c.self.inside.page c.put_quoted.new.self c.self.inside.has_value false (c.self.inside.has_value) (name c.args.own.now) c.self.view_is (and_true c.self.inside.has_value) refl (Puts-same (ap (λ (l : List ℕ). quoted c.self.inside.has_value l true) (c.as_bytes.ensures.value ∙ plain_name c.args.own.now c.requires) ∙ quoted_is c.self.inside.has_value (escaped json c.args.own.now) true) c.put_quoted.ensures)
