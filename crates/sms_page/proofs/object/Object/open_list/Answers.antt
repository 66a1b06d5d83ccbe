use Rattle.std.proofs.Common.{false, refl}
use Rattle.sms_page.specs.Object.{list}
use Rattle.sms_page.proofs.PageLemmas.{Puts-then}
use Rattle.sms_page.proofs.ObjectLemmas.{Writes-token, and_true}
use Rattle.sms_page.proofs.object.Object.open_list.Goals as goal

pub returns : goal.returns
returns c = Writes-token c.args.self.now c.self.inside.page c.put_one.new.self c.self.inside.has_value false (c.self.inside.has_value) (list) c.self.view_is (and_true c.self.inside.has_value) refl (Puts-then _ _ c.put_wanted.ensures c.put_one.ensures)
