use Rattle.std.proofs.Common.{true, false, refl}
use Rattle.sms_page.specs.Object.{end_list}
use Rattle.sms_page.proofs.ObjectLemmas.{Writes-token, and_false}
use Rattle.sms_page.proofs.object.Object.close_list.Goals as goal

pub returns : goal.returns
returns c = Writes-token c.args.self.now c.self.inside.page c.put_one.new.self c.self.inside.has_value true (false) (end_list) c.self.view_is (and_false c.self.inside.has_value) refl (c.put_one.ensures)
