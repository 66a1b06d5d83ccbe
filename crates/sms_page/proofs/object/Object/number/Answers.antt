use Rattle.std.proofs.Common.{true, refl, decimal}
use Rattle.sms_page.specs.Object.{value}
use Rattle.sms_page.proofs.PageLemmas.{Puts-then}
use Rattle.sms_page.proofs.ObjectLemmas.{Writes-token, and_true}
use Rattle.sms_page.proofs.object.Object.number.Goals as goal

pub returns : goal.returns
returns c = Writes-token c.args.self.now c.self.inside.page c.put_decimal.new.self c.self.inside.has_value true (c.self.inside.has_value) (value (decimal c.args.number)) c.self.view_is (and_true c.self.inside.has_value) refl (Puts-then _ _ c.put_wanted.ensures c.put_decimal.ensures)
