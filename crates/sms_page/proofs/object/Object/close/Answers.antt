use Rattle.std.proofs.Common.{true, false, refl}
use Rattle.sms_page.specs.Object.{end_object}
use Rattle.sms_page.proofs.ObjectLemmas.{Writes-token, and_false}
use Rattle.sms_page.proofs.object.Object.close.Goals as goal

pub returns : goal.returns
returns c = Writes-token c.args.self.now c.self.inside.page c.put_one.new.self c.self.inside.has_value true (false) (end_object) c.self.view_is (and_false c.self.inside.has_value) refl (c.put_one.ensures)
