use Rattle.std.proofs.Common.{true, false, List, ℕ, ap, refl, ◌∙◌}
use Rattle.sms_page.specs.Page.{quoted}
use Rattle.sms_page.specs.Escapes.{escaped, json}
use Rattle.sms_page.specs.Object.{json_string, value}
use Rattle.sms_page.proofs.PageLemmas.{Puts-same}
use Rattle.sms_page.proofs.ObjectLemmas.{Writes-token, and_true, quoted_is}
use Rattle.sms_page.proofs.object.Object.text.Goals as goal

pub returns : goal.returns
returns c = Writes-token c.args.self.now c.self.inside.page c.put_json.new.page c.self.inside.has_value true (c.self.inside.has_value) (value (json_string c.args.text.now)) c.self.view_is (and_true c.self.inside.has_value) refl (Puts-same (ap (λ (l : List ℕ). quoted c.self.inside.has_value (escaped json l) false) c.as_bytes.ensures.value ∙ quoted_is c.self.inside.has_value (escaped json c.args.text.now) false) c.put_json.ensures)
